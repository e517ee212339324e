-- The leaves of a tree within the limits.
use Rattle.std.proofs.Common.{◌≡◌, ℕ, suc, ◌+◌, ◌^◌, ◌≤◌, List, [], ◌∷◌, length, Some, refl, sym, ap, subst, ◌∙◌, inl, inr, arith}
use Rattle.std.specs.Prelude.{max}
use Rattle.std.specs.List.{All}
use Rattle.std.proofs.lemmas.Option.{slice_get_within, same_Some}
use Rattle.affc_system.proofs.SystemLemmas.{rows_of}
use Rattle.affc_trace.specs.Law.{IsIn}
use Rattle.affc_trace.proofs.Members.{in_map}
use Rattle.affc_trace.proofs.Once.{in_append}
use Rattle.affc_nest.specs.declared.nest.Nest.{Nest}
use Rattle.affc_order.specs.Posed.{Posed}
use Rattle.affc_order.specs.Systems.{loops_or_none}
use Rattle.affc_sched.specs.Touched.{Each}
use Rattle.affc_quast.specs.Laws.{IsOver}
use Rattle.affc_quast.specs.Leaves.{Leaf, negated, behind, divided, leaves_of}
use Rattle.affc_quast.specs.Limits.{Shaped, FitsForm, FitsTree, widest}
use Rattle.affc_quast.specs.Trees.{Tree, Test, Div, Source, Input, depth_of, divisions_of}
use Rattle.affc_quast.proofs.RangeLemmas.{leaves_are_over}
use Rattle.affc_life.specs.Asked.{IsNamed, NamesParts, KeepsLimits, AreDivisions, IsPath}
use Rattle.affc_life.proofs.LightLemmas.{form_within, forms_within}

-- what a leaf has of its tree's limits
record OfTree (nest : Nest) (columns : ℕ) (tree : Tree) (l : Leaf) : Type 0 where
  few : length l.divisions ≤ depth_of tree
  divisions : AreDivisions columns l.divisions
  named : (a : Posed) → l.named ≡ Some a → IsNamed nest a.part a.iterators × All (FitsForm widest) a.iterators

less_left : (n d e : ℕ) → n ≤ d → n ≤ suc (max d e)
less_left n d e h = grind (arith, h)

less_right : (n d e : ℕ) → n ≤ e → n ≤ suc (max d e)
less_right n d e h = grind (arith, h)

of_tree : (nest : Nest) (columns : ℕ) (tree : Tree) → Shaped columns tree → NamesParts nest tree → FitsTree widest tree → (l : Leaf) → IsIn l (leaves_of columns tree) → OfTree nest columns tree l
of_tree nest columns (Test f on off) h n g l i = elim (in_append _ _ l i) [
  | inl j ↦ (let r = in_map (behind (f ∷ [])) (leaves_of columns on) l j in let o = of_tree nest columns on h.1 n.0 g.1 r.0 r.1 in
      subst (OfTree nest columns (Test f on off)) (sym r.2) (record { few = less_left (length r.0.divisions) (depth_of on) (depth_of off) o.few; divisions = o.divisions; named = o.named }))
  | inr j ↦ (let r = in_map (behind (negated f ∷ [])) (leaves_of columns off) l j in let o = of_tree nest columns off h.2 n.1 g.2 r.0 r.1 in
      subst (OfTree nest columns (Test f on off)) (sym r.2) (record { few = less_right (length r.0.divisions) (depth_of on) (depth_of off) o.few; divisions = o.divisions; named = o.named }))
]
of_tree nest columns (Div f by rest) h n g l i =
    let r = in_map (divided columns f by) (leaves_of (suc columns) rest) l i in
    let o = of_tree nest (suc columns) rest h.2 n g.2 r.0 r.1 in
    subst (OfTree nest columns (Div f by rest)) (sym r.2) (record { few = one (length r.0.divisions) (depth_of rest) o.few; divisions = (form_within widest columns f h.0 g.0, h.1, o.divisions); named = o.named })
  where
    one : (a b : ℕ) → a ≤ b → suc a ≤ suc b
    one a b h = omega (arith, h)
of_tree nest columns (Source s forms) h n g l (inl e) =
    subst (OfTree nest columns (Source s forms)) (sym e) (record {
      few = omega arith;
      divisions = tt;
      named = λ a q. subst (λ (b : Posed). IsNamed nest b.part b.iterators × All (FitsForm widest) b.iterators) (same_Some (record { part = s; iterators = forms }) a q) (n, g);
    })
of_tree nest columns (Source s forms) h n g l (inr i) = absurd i
of_tree nest columns Input h n g l (inl e) = subst (OfTree nest columns Input) (sym e) (record { few = omega arith; divisions = tt; named = λ a q. absurd (cc) })
of_tree nest columns Input h n g l (inr i) = absurd i

pub path_of : (nest : Nest) (columns : ℕ) (tree : Tree) → KeepsLimits nest columns tree → (l : Leaf) → IsIn l (leaves_of columns tree) → IsPath nest columns l
path_of nest columns tree k l i =
    let o = of_tree nest columns tree k.shaped k.named k.fits l i in
    let v : IsOver columns l = leaves_are_over columns tree l k.shaped i in
    record {
      count = v.width;
      few = through (length l.divisions) (depth_of tree) o.few k.short;
      rows = v.rows;
      divisions = o.divisions;
      named = λ a q. let n = o.named a q in record {
        part = slice_get_within nest.entries a.part n.0.entry n.0.there;
        each = n.0.each ∙ ap (λ e. length (loops_or_none e)) (sym n.0.there);
        rows = rows_of l.columns (2 ^ 24) (2 ^ 50) a.iterators (omega arith) (omega arith) (forms_within widest l.columns a.iterators (v.named a q) n.1);
      };
    }
  where
    through : (a b : ℕ) → a ≤ b → b ≤ 400 → a ≤ 400
    through a b h g = omega (arith, h, g)

pub paths_of : (nest : Nest) (columns : ℕ) (tree : Tree) → KeepsLimits nest columns tree → (leaves : List Leaf) → leaves ≡ leaves_of columns tree → Each (IsPath nest columns) leaves
paths_of nest columns tree k leaves e = each leaves (λ l i. path_of nest columns tree k l (subst (IsIn l) e i))
  where
    each : (ls : List Leaf) → ((l : Leaf) → IsIn l ls → IsPath nest columns l) → Each (IsPath nest columns) ls
    each [] h = tt
    each (l ∷ ls) h = (h l (inl refl), each ls (λ m i. h m (inr i)))

-- so few that the code counts the columns
divisions_below : (tree : Tree) → divisions_of tree ≤ depth_of tree
divisions_below (Test f on off) = most (divisions_of on) (divisions_of off) (depth_of on) (depth_of off) (divisions_below on) (divisions_below off)
  where
    most : (a b c d : ℕ) → a ≤ c → b ≤ d → max a b ≤ suc (max c d)
    most a b c d h g = grind (arith, h, g)
divisions_below (Div f by rest) = let h = divisions_below rest in omega (arith, h)
divisions_below (Source s forms) = omega arith
divisions_below Input = omega arith

pub few_divisions : (nest : Nest) (columns : ℕ) (tree : Tree) → KeepsLimits nest columns tree → columns ≤ 10 → columns + divisions_of tree ≤ 1000
few_divisions nest columns tree k h = sum columns (divisions_of tree) (depth_of tree) h (divisions_below tree) k.short
  where
    sum : (c d e : ℕ) → c ≤ 10 → d ≤ e → e ≤ 400 → c + d ≤ 1000
    sum c d e h g i = omega (arith, h, g, i)
