-- The subscripts of a nest's accesses keep the limits of a pair system's.
use Rattle.std.proofs.Common.{◌≡◌, ℕ, ◌+◌, ◌^◌, ◌≤◌, IsTrue, List, [], ◌∷◌, length, map, sym, ap, subst, ◌∙◌, inl, inr, arith}
use Rattle.std.specs.Prelude.{nat_le}
use Rattle.std.specs.List.{All}
use Rattle.std.proofs.lemmas.Bool.{leb-true}
use Rattle.std.proofs.lemmas.List.Elements.{All-nil, All-cons}
use Rattle.affc_rows.specs.Forms.{Affine}
use Rattle.affc_rows.proofs.SizeLemmas.{all_raised}
use Rattle.affc_system.specs.Pairs.{IsSubscript}
use Rattle.affc_ast.specs.declared.tree.Ix.{Ix}
use Rattle.affc_trace.specs.Law.{IsIn}
use Rattle.affc_domain.specs.Accesses as said
use Rattle.affc_domain.specs.Accesses.{accesses_of}
use Rattle.affc_domain.specs.Affine.{is_small, form_of}
use Rattle.affc_domain.specs.Plain.{is_plain, all_plain}
use Rattle.affc_domain.specs.Ranges.{number_ranges}
use Rattle.affc_domain.specs.Rounds.{loops_in}
use Rattle.affc_domain.proofs.FormLemmas.{form_width}
use Rattle.affc_domain.proofs.Lists.{both_true, length_map, place_of}
use Rattle.affc_domain.proofs.PlainLemmas.{assignments_are_plain}
use Rattle.affc_nest.specs.Asked.{IsNest}
use Rattle.affc_nest.specs.declared.nest.Access.{Access}
use Rattle.affc_nest.specs.declared.nest.Entry.{Entry}
use Rattle.affc_nest.specs.declared.nest.Nest.{Nest}
use Rattle.affc_nest.specs.Nests.{access_form, nest_of}
use Rattle.affc_nest.specs.Sites.{Place}
use Rattle.affc_nest.specs.Touches.{AllPlain}
use Rattle.affc_nest.specs.Wide.{IsWide}
use Rattle.affc_nest.proofs.EntryLemmas.{site_of, loops_are}
use Rattle.affc_nest.proofs.PlaceProofs.{plain_place}
use Rattle.affc_nest.proofs.RowLemmas.{small_side}
use Rattle.affc_nest.proofs.SmallLemmas.{constant_small}
use Rattle.affc_nest.proofs.WidenLemmas.{plain_small}

-- ---- Small forms

plain_subscript : (n : ℕ) (e : Ix) → IsTrue (is_plain n e) → IsSubscript n (form_of n 0 e)
plain_subscript n e h =
    let s : IsTrue (is_small (form_of n 0 e)) = plain_small n 0 e h in
    record {
      width = form_width n 0 e ∙ none n;
      coefs_fit = (small_side n (form_of n 0 e) s (form_width n 0 e ∙ none n)).coefs_fit;
      constant_fits = constant_small (form_of n 0 e) s;
    }
  where
    none : (n : ℕ) → n + 0 ≡ n
    none n = omega arith

pub subscript_in : (n : ℕ) (es : List Ix) → IsTrue (all_plain n es) → All (IsSubscript n) (map (form_of n 0) es)
subscript_in n [] h = All-nil (IsSubscript n)
subscript_in n (e ∷ es) h =
    let a = both_true (is_plain n e) (all_plain n es) h in
    All-cons (IsSubscript n) (form_of n 0 e) (map (form_of n 0) es) (plain_subscript n e a.0) (subscript_in n es a.1)

access_in : (n : ℕ) (xs : List said.Access) (x : Access) → AllPlain n xs → IsIn x (map (access_form n) xs) → All (IsSubscript n) x.subs
access_in n [] x h i = absurd i
access_in n (y ∷ xs) x h (inl is) = subst (λ (z : Access). All (IsSubscript n) z.subs) (sym is) (subscript_in n y.1 h.0)
access_in n (y ∷ xs) x h (inr i) = access_in n xs x h.1 i

-- ---- Accesses

pub are_subscripts : (nest : Nest) → IsNest nest → (e : Entry) → IsIn e nest.entries → (x : Access) → IsIn x e.accesses → All (IsSubscript (length nest.params + length e.loops)) x.subs
are_subscripts nest n e i x j =
    let k = place_of (nest_of n.program).entries e (subst (λ (y : Nest). IsIn e y.entries) n.is i) in
    let s = site_of n.program k.0 e k.1 in
    let p : Place = record { around = s.its_rounds; loops = s.loops; assignment = s.assignment } in
    let m = length (number_ranges n.program.params) in
    let plain = plain_place m p (assignments_are_plain n.program n.has.plain k.0 s.its_rounds s.assignment s.rounds_at s.assignment_at) in
    let c = m + loops_in s.its_rounds in
    let all : All (IsSubscript c) x.subs = access_in c (accesses_of s.assignment) x plain.accesses (subst (λ (y : Entry). IsIn x y.accesses) s.is j) in
    let same : c ≡ length nest.params + length e.loops =
    ap (λ l. m + l) (sym (loops_are n.program k.0 e s)) ∙ ap (λ (y : Nest). length y.params + length e.loops) (sym n.is) in
    subst (λ l. All (IsSubscript l) x.subs) same all

-- at most 16 of a part
pub few_accesses : (nest : Nest) → IsNest nest → (e : Entry) → IsIn e nest.entries → length e.accesses ≤ 16
few_accesses nest n e i =
    let k = place_of (nest_of n.program).entries e (subst (λ (y : Nest). IsIn e y.entries) n.is i) in
    let s = site_of n.program k.0 e k.1 in
    let plain = (assignments_are_plain n.program n.has.plain k.0 s.its_rounds s.assignment s.rounds_at s.assignment_at).1 in
    let few : length (accesses_of s.assignment) ≤ 16 = leb-true (length (accesses_of s.assignment)) 16 (both_true (nat_le (length (accesses_of s.assignment)) 16) _ plain).0 in
    subst (λ m. m ≤ 16) (sym (ap (λ (y : Entry). length y.accesses) s.is ∙ length_map (access_form (length (number_ranges n.program.params) + loops_in s.its_rounds)) (accesses_of s.assignment))) few

-- ---- Wide forms

pub subscripts_wide : (n : ℕ) (fs : List Affine) → All (IsSubscript n) fs → All (IsWide n) fs
subscripts_wide n fs all = all_raised n 65536 16777216 (2 ^ 110) (2 ^ 110) fs (omega arith) (omega arith) all
