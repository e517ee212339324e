-- Leaves at the end of a path.
use Rattle.std.proofs.Common.{◌≡◌, ℕ, suc, ◌^◌, ℤ, List, [], ◌∷◌, ◌++◌, length, map, sym, ap, ◌∙◌, arith}
use Rattle.affc_rows.specs.Forms.{Affine}
use Rattle.affc_rows.proofs.SizeLemmas.{within_raised}
use Rattle.affc_trace.proofs.EndedReads.{append_assoc}
use Rattle.affc_trace.proofs.LastStores.{map_append}
use Rattle.affc_nest.specs.Divisions.{division_rows}
use Rattle.affc_quast.specs.Leaves.{Leaf, negated, behind, divided, leaves_of}
use Rattle.affc_quast.specs.Limits.{FitsForm, widest}
use Rattle.affc_quast.specs.SeenLeaves.{under}
use Rattle.affc_quast.specs.Trees.{Tree, Test, Div}
use Rattle.affc_nest.specs.Wide.{IsWide}

-- a form of a tree is wide
pub wide_of : (n : ℕ) (f : Affine) → length f.coefs ≡ n → FitsForm widest f → IsWide n f
wide_of n f e h = within_raised n (2 ^ 24) (2 ^ 50) (2 ^ 110) (2 ^ 110) f (omega arith) (omega arith) (record { width = e; coefs_fit = h.coefs_fit; constant_fits = h.constant_fits })

under_behind : (rows xs : List Affine) (ds : List (Affine × ℤ)) (ls : List Leaf) → map (under rows ds) (map (behind xs) ls) ≡ map (under (rows ++ xs) ds) ls
under_behind rows xs ds [] = λ i. []
under_behind rows xs ds (l ∷ ls) =
    ap (λ rs. (record { columns = l.columns; rows = rs; divisions = ds ++ l.divisions; named = l.named }) ∷ map (under rows ds) (map (behind xs) ls)) (sym (append_assoc rows xs l.rows))
    ∙ ap (λ zs. under (rows ++ xs) ds l ∷ zs) (under_behind rows xs ds ls)

under_divided : (rows : List Affine) (ds : List (Affine × ℤ)) (columns : ℕ) (f : Affine) (by : ℤ) (ls : List Leaf)
    → map (under rows ds) (map (divided columns f by) ls) ≡ map (under (rows ++ division_rows columns f by) (ds ++ (f, by) ∷ [])) ls
under_divided rows ds columns f by [] = λ i. []
under_divided rows ds columns f by (l ∷ ls) =
    ap (λ rs. (record { columns = l.columns; rows = rs; divisions = ds ++ (f, by) ∷ l.divisions; named = l.named }) ∷ map (under rows ds) (map (divided columns f by) ls)) (sym (append_assoc rows (division_rows columns f by) l.rows))
    ∙ ap (λ es. (record { columns = l.columns; rows = (rows ++ division_rows columns f by) ++ l.rows; divisions = es; named = l.named }) ∷ map (under rows ds) (map (divided columns f by) ls)) (sym (append_assoc ds ((f, by) ∷ []) l.divisions))
    ∙ ap (λ zs. under (rows ++ division_rows columns f by) (ds ++ (f, by) ∷ []) l ∷ zs) (under_divided rows ds columns f by ls)

pub test_made : (columns : ℕ) (f : Affine) (on off : Tree) (rows on_rows off_rows : List Affine) (ds : List (Affine × ℤ)) (old first new : List Leaf)
    → on_rows ≡ rows ++ f ∷ [] → off_rows ≡ rows ++ negated f ∷ []
    → first ≡ old ++ map (under on_rows ds) (leaves_of columns on) → new ≡ first ++ map (under off_rows ds) (leaves_of columns off)
    → new ≡ old ++ map (under rows ds) (leaves_of columns (Test f on off))
test_made columns f on off rows on_rows off_rows ds old first new a b d e =
    let one : List Leaf = map (under rows ds) (map (behind (f ∷ [])) (leaves_of columns on)) in
    let two : List Leaf = map (under rows ds) (map (behind (negated f ∷ [])) (leaves_of columns off)) in
    let u : first ≡ old ++ one = d ∙ ap (λ r. old ++ map (under r ds) (leaves_of columns on)) a ∙ ap (λ ls. old ++ ls) (sym (under_behind rows (f ∷ []) ds (leaves_of columns on))) in
    let v : new ≡ first ++ two = e ∙ ap (λ r. first ++ map (under r ds) (leaves_of columns off)) b ∙ ap (λ ls. first ++ ls) (sym (under_behind rows (negated f ∷ []) ds (leaves_of columns off))) in
    v ∙ ap (λ ls. ls ++ two) u ∙ append_assoc old one two ∙ ap (λ ls. old ++ ls) (sym (map_append (under rows ds) (map (behind (f ∷ [])) (leaves_of columns on)) (map (behind (negated f ∷ [])) (leaves_of columns off))))

pub division_made : (columns more : ℕ) (f : Affine) (by : ℤ) (rest : Tree) (rows path : List Affine) (ds all : List (Affine × ℤ)) (old new : List Leaf)
    → more ≡ suc columns → path ≡ rows ++ division_rows columns f by → all ≡ ds ++ (f, by) ∷ [] → new ≡ old ++ map (under path all) (leaves_of more rest)
    → new ≡ old ++ map (under rows ds) (leaves_of columns (Div f by rest))
division_made columns more f by rest rows path ds all old new m a b e =
    e ∙ ap (λ n. old ++ map (under path all) (leaves_of n rest)) m ∙ ap (λ r. old ++ map (under r all) (leaves_of (suc columns) rest)) a
    ∙ ap (λ d. old ++ map (under (rows ++ division_rows columns f by) d) (leaves_of (suc columns) rest)) b
    ∙ ap (λ ls. old ++ ls) (sym (under_divided rows ds columns f by (leaves_of (suc columns) rest)))

under_none : (ls : List Leaf) → map (under [] []) ls ≡ ls
under_none [] = λ i. []
under_none (l ∷ ls) = ap (λ zs. l ∷ zs) (under_none ls)

-- with nothing above
pub leaves_made : (columns : ℕ) (tree : Tree) (rows : List Affine) (ds : List (Affine × ℤ)) (old new : List Leaf) → rows ≡ [] → ds ≡ [] → old ≡ []
    → new ≡ old ++ map (under rows ds) (leaves_of columns tree) → new ≡ leaves_of columns tree
leaves_made columns tree rows ds old new a b d e =
    e ∙ ap (λ ls. ls ++ map (under rows ds) (leaves_of columns tree)) d ∙ ap (λ rs. map (under rs ds) (leaves_of columns tree)) a ∙ ap (λ es. map (under [] es) (leaves_of columns tree)) b
    ∙ under_none (leaves_of columns tree)
