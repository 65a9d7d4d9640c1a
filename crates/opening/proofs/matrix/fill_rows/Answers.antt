use Rattle.std.proofs.Common.{rules, refl, ◌∙◌}
use Rattle.opening.proofs.Matrices.{cells_more, cell_kept}
use Rattle.opening.proofs.matrix.fill_rows.Goals as goal

pub loop-b-preserved : goal.loop-b-preserved
loop-b-preserved c =
    let l = c.loop-b in record {
      rows = λ x y hx hy. cell_kept c.loop-a.a l.b _ l.matrix _ x y hx hy ∙ l.invariant.rows x y hx hy;
      row = cells_more _ l.b l.matrix _ _ (search rules) l.invariant.row refl;
    }
