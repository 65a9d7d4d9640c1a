use Rattle.std.proofs.Common.{arith, ◌≡◌, ◌-◌, sym, ◌∙◌}
use Rattle.opening.proofs.Listing.{listed_none, listed_skip, listed_full, listed_push}
use Rattle.opening.proofs.places.list_places.Goals as goal
use Rattle.opening.proofs.places.list_places.Goals.{then-passes, then-count-out, else-count-out, else-passes}

pub loop-j-init : goal.loop-j-init
loop-j-init g c = record { few = omega arith; listed = λ p h. listed_none p c.args.from _ c.args.out.now (omega arith) }

pub loop-j-preserved : goal.loop-j-preserved
loop-j-preserved g c =
    let l = c.loop-j in
    elim c.if-passes.branch [
      | then-passes w ↦ elim w.if-count-out.branch [
        | then-count-out v ↦ record {
          few = omega arith;
          listed = λ p h. rw (w.count-is, w.out-is, v.out-is)
              (listed_push p c.args.from _ l.out l.count (l.invariant.listed p h) l.j _ (omega arith) (omega arith) (sym (h l.j c.passes.result (omega arith) (omega arith) c.passes.ensures) ∙ w.if-passes.true) (omega arith));
        }
        | else-count-out v ↦ record {
          few = omega arith;
          listed = λ p h. rw (w.count-is, w.out-is, v.out-is)
              (listed_full p c.args.from _ l.out l.count (l.invariant.listed p h) l.j _ (omega arith) (omega arith) (sym (h l.j c.passes.result (omega arith) (omega arith) c.passes.ensures) ∙ w.if-passes.true) (omega arith));
        }
      ]
      | else-passes w ↦ record {
        few = omega arith;
        listed = λ p h. rw (w.count-is, w.out-is)
            (listed_skip p c.args.from _ l.out l.count (l.invariant.listed p h) l.j _ (omega arith) (omega arith) (sym (h l.j c.passes.result (omega arith) (omega arith) c.passes.ensures) ∙ w.if-passes.false));
      }
    ]

pub returns-clause-listed : goal.returns-clause-listed
returns-clause-listed g c = λ p h. let e : c.args.to - c.args.from ≡ c.loop-j.j - c.args.from = omega arith in rw e (c.loop-j.invariant.listed p h)
