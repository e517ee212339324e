-- Every system of at most 2^62 rows has an answer of its projection.
use Rattle.std.proofs.Common.{◌≡◌, ℕ, ◌+◌, ◌^◌, ◌<◌, ◌≤◌, List, length, take, inl, inr, arith}
use Rattle.std.proofs.lemmas.Bool.{cases_lt}
use Rattle.std.proofs.lemmas.List.{length-take-le}
use Rattle.std.proofs.lemmas.List.Elements.{All-take}
use Rattle.affc_rows.specs.Forms.{Affine}
use Rattle.affc_eliminate.specs.project.Projections.{IsProjection}
use Rattle.affc_eliminate.specs.declared.project.projection.Projected.{Projected}
use Rattle.affc_eliminate.specs.declared.project.projection.Projected.TheVariants.{Rows, TooMany}
use Rattle.affc_eliminate.proofs.project.Tables.{first_pairs}
use Rattle.affc_loopends.specs.bounding.Laws.{SystemsProject}
use Rattle.affc_loopends.proofs.bounding.Projected.{Projection, projection}
use Rattle.affc_loopends.proofs.bounding.Vecs.{vec_of}

rows_small : (n r m : ℕ) → n ≤ r + m → r ≤ 2 ^ 62 → m < 4096 → n < 2 ^ 63
rows_small n r m h k l = omega arith

few_small : (m : ℕ) → m < 4096 → m < 2 ^ 63
few_small m h = omega arith

limit_small : (m : ℕ) → m ≡ 4096 → m < 2 ^ 63
limit_small m e = omega arith

answer : (columns : ℕ) (rows : List Affine) (keep : ℕ) → length rows ≤ 2 ^ 62 → Projection columns rows keep → (p : Projected) × IsProjection columns rows keep p
answer columns rows keep many p = elim (cases_lt (length p.made) 4096) [
  | inl few ↦ (Rows (vec_of p.projected (rows_small (length p.projected) (length rows) (length p.made) p.few many few)) (vec_of p.made (few_small (length p.made) few)), (p.are, p.later))
  | inr over ↦
      let front = first_pairs columns rows 4096 p.are.is_table in
      let long : length (take 4096 p.made) ≡ 4096 = length-take-le 4096 p.made over in (
        TooMany (vec_of (take 4096 p.made) (limit_small (length (take 4096 p.made)) long)),
        (record { table = front.0; is_table = front.1 }, long, All-take (λ q. keep ≤ q.column) 4096 p.made p.later),
      )
]

pub systems_project : SystemsProject
systems_project columns rows keep w le many = answer columns rows keep many (projection columns rows keep w le)
