-- A code word that is near the word is the corrected one, so the sums of that decide.
use Rattle.std.proofs.Common.{sym, ap, ◌∙◌, ◌≡◌, ℕ, true, false, List, ◌+◌, ◌<◌, length, get_or, rules}
use Rattle.gf.specs.Field.{◌⊕◌}
use Rattle.gf.proofs.Ten.{ten-field}
use Rattle.gf.specs.Ten.{ten}
use Rattle.code.specs.Stages.{brought}
use Rattle.code.proofs.Deciding.{code-word, zero-sums, corrected-is, corrected-summed, corrected-near, restored}
use Rattle.code.proofs.apply.Goals as goal

pub returns-then-all_zero : goal.returns-then-all_zero
returns-then-all_zero c t two =
    let pre = c.requires in
    let A = c.add_values in
    let added : (j : ℕ) → j < length c.args.sums.now → get_or c.add_sums.new.sums j 0 ≡ get_or c.args.sums.now j 0 ⊕ brought ten c.args.values.now c.args.points.now (1 + j) = λ j h.
    c.add_sums.ensures j h ∙ ap (λ (v : List ℕ). get_or c.args.sums.now j 0 ⊕ brought ten v c.args.points.now (1 + j)) c.copy.ensures in
    let S = corrected-summed ten _ _ _ _ _ _ pre.summed pre.suspects pre.values A.ensures A.auto.word ten-field _ _ pre.as_many_points c.add_sums.auto.sums pre.points added in
    corrected-near ten _ _ _ _ _ _ pre.summed pre.suspects pre.values A.ensures A.auto.word ten-field t two (code-word ten _ t _ _ (c.add_sums.auto.sums ∙ sym two) S (c.if-all_zero.ensures.0 (search rules)))

pub returns : goal.returns
returns c t two =
    let pre = c.requires in
    let A = c.add_values in
    let B = c.add_values-2 in
    let added : (j : ℕ) → j < length c.args.sums.now → get_or c.add_sums.new.sums j 0 ≡ get_or c.args.sums.now j 0 ⊕ brought ten c.args.values.now c.args.points.now (1 + j) = λ j h.
    c.add_sums.ensures j h ∙ ap (λ (v : List ℕ). get_or c.args.sums.now j 0 ⊕ brought ten v c.args.points.now (1 + j)) c.copy.ensures in
    let S = corrected-summed ten _ _ _ _ _ _ pre.summed pre.suspects pre.values A.ensures A.auto.word ten-field _ _ pre.as_many_points c.add_sums.auto.sums pre.points added in (
      restored ten _ _ _ _ _ _ pre.summed pre.suspects pre.values A.ensures A.auto.word _ B.auto.word B.ensures,
      λ d N.
          let e : false ≡ true = c.if-all_zero.ensures.1 (zero-sums ten _ t _ _ (c.add_sums.auto.sums ∙ sym two) S (rw (corrected-is ten _ _ _ _ _ _ pre.summed pre.suspects pre.values A.ensures A.auto.word t two d N) N.code)) in
          cc,
    )
