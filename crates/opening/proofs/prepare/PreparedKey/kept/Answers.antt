use Rattle.std.proofs.Common.{rules, ◌≡◌, refl, sym, ap₂, ◌∙◌, ℕ}
use Rattle.gf.specs.Field.{◌⊕◌, mul}
use Rattle.gf.specs.Ten.{ten}
use Rattle.opening.proofs.Undoing.{kept_plain, kept_mixed}
use Rattle.opening.proofs.prepare.PreparedKey.kept.Goals as goal

pub returns-then-j-unmixed : goal.returns-then-j-unmixed
returns-then-j-unmixed c = c.received.ensures ∙ sym (kept_plain _ _ c.args.received.now c.args.j _ refl c.if-j-unmixed.true)

pub returns : goal.returns
returns c =
    let upper : c.product-upper.result ≡ mul ten c.received-2.result c.column.result = search rules in
    let lower : c.product-lower.result ≡ mul ten c.received-3.result c.column-2.result = search rules in
    ap₂ (λ (a b : ℕ). a ⊕ b) (upper ∙ ap₂ (mul ten) c.received-2.ensures c.column.ensures) (lower ∙ ap₂ (mul ten) c.received-3.ensures c.column-2.ensures)
    ∙ sym (kept_mixed _ _ c.args.received.now c.args.j _ _ refl c.if-j-unmixed.false refl)
