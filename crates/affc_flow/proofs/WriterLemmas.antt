-- The statements that store an array.
use Rattle.std.proofs.Common.{◌≡◌, ℕ, suc, ◌+◌, ◌-◌, ℤ, IsTrue, if◌then◌else◌, List, [], ◌∷◌, ◌++◌, length, map, Option, Some, None, refl, sym, ap, subst, ◌∙◌, inl, inr, arith}
use Rattle.std.specs.Prelude.{slice_get, nat_eq}
use Rattle.std.proofs.lemmas.Bool.{eq-eqb, eqb-true}
use Rattle.affc_ast.specs.declared.tree.Instance.{Instance}
use Rattle.affc_ast.specs.declared.tree.Program.{Program}
use Rattle.affc_ast.specs.Trace.{loads_of, store_of}
use Rattle.affc_trace.specs.Law.{IsIn}
use Rattle.affc_trace.proofs.Members.{to_flat_map}
use Rattle.affc_trace.proofs.Once.{in_flat_map}
use Rattle.affc_trace.proofs.Runs.{length_append}
use Rattle.affc_domain.specs.Ranges.{number_ranges}
use Rattle.affc_domain.proofs.Lists.{stands_in, length_map, in_if, to_if}
use Rattle.affc_nest.specs.declared.nest.Access.{Access}
use Rattle.affc_nest.specs.declared.nest.Entry.{Entry}
use Rattle.affc_nest.specs.declared.nest.Nest.{Nest}
use Rattle.affc_nest.specs.Laws.{HasNest, element_at}
use Rattle.affc_sched.proofs.LegalLemmas.{Stood, events_are}
use Rattle.affc_quast.specs.Sources.{loads_in}
use Rattle.affc_flow.specs.Questions.{Writer, store_of_entry, writer_if, writers}
use Rattle.affc_flow.specs.Writers.{Writes}

-- ---- The last of a list

last_at : {A B : Type 0} (f : A → B) (xs : List A) (ys : List B) (z : B) → map f xs ≡ ys ++ z ∷ [] → (y : A) × (slice_get xs (length ys) ≡ Some y) × (f y ≡ z)
last_at f [] [] z e = absurd (cc)
last_at f [] (y ∷ ys) z e = absurd (cc)
last_at f (x ∷ xs) [] z e = (x, refl, heads (f x) z (map f xs) [] e)
  where
    heads : {B : Type 0} (x y : B) (xs ys : List B) → x ∷ xs ≡ y ∷ ys → x ≡ y
    heads x y xs ys e = cc
last_at f (x ∷ xs) (y ∷ ys) z e = last_at f xs ys z (tails (f x) y (map f xs) (ys ++ z ∷ []) e)
  where
    tails : {B : Type 0} (x y : B) (xs ys : List B) → x ∷ xs ≡ y ∷ ys → xs ≡ ys
    tails x y xs ys e = cc

-- ---- The store of an instance

pub record Stored (program : Program) (p : List ℤ) (e : Entry) (its : List ℤ) : Type 0 where
  pub access : Access
  pub last : store_of_entry e ≡ Some access
  pub made : IsIn access e.accesses
  pub is : element_at (p ++ its) access ≡ store_of program p (record { statement = e.part; iterators = its })

pub stored_there : (program : Program) (has : HasNest program) (p : List ℤ) (l : length p ≡ length (number_ranges program.params)) (e : Entry) (its : List ℤ) → Stood program p e its → Stored program p e its
stored_there program has p l e its s =
    let b : Instance = record { statement = e.part; iterators = its } in
    let ev = events_are program has p l e its s in
    let r = last_at (element_at (p ++ its)) e.accesses (loads_of program p b) (store_of program p b) ev in
    let count : length (loads_of program p b) ≡ loads_in e =
    fewer (length e.accesses) (length (loads_of program p b)) (sym (length_map (element_at (p ++ its)) e.accesses) ∙ ap length ev ∙ length_append (loads_of program p b) (store_of program p b ∷ [])) in
    let at : slice_get e.accesses (loads_in e) ≡ Some r.0 = subst (λ k. slice_get e.accesses k ≡ Some r.0) count r.1 in
    record { access = r.0; last = at; made = stands_in e.accesses (loads_in e) r.0 at; is = r.2 }
  where
    fewer : (a b : ℕ) → a ≡ b + 1 → b ≡ a - 1
    fewer a b e = omega (arith, e)

-- ---- Writers

writer_is : (array : ℕ) (e : Entry) (o : Option Access) (w : Writer) → IsIn w (writer_if array e o) → (w.0 ≡ e) × (o ≡ Some w.1) × (w.1.array.0 ≡ array)
writer_is array e None w i = absurd i
writer_is array e (Some y) w i =
    let r = in_if (nat_eq y.array.0 array) ((e, y) ∷ []) w i in
    one w r.1 (eqb-true y.array.0 array r.0)
  where
    one : (w : Writer) → IsIn w ((e, y) ∷ []) → y.array.0 ≡ array → (w.0 ≡ e) × (◌≡◌ {A = Option Access} (Some y) (Some w.1)) × (w.1.array.0 ≡ array)
    one w (inl q) h = (ap (λ (w : Writer). w.0) q, ap (λ (w : Writer). Some w.1) (sym q), ap (λ (w : Writer). w.1.array.0) q ∙ h)
    one w (inr b) h = absurd b

pub from_writers : (nest : Nest) (array : ℕ) (w : Writer) → IsIn w (writers nest array) → Writes nest array w.0 w.1
from_writers nest array w i =
    let a = in_flat_map (λ e. if e.alive then writer_if array e (store_of_entry e) else []) nest.entries w i in
    let b = in_if a.0.alive (writer_if array a.0 (store_of_entry a.0)) w a.2 in
    let c = writer_is array a.0 (store_of_entry a.0) w b.1 in
    record {
      among = subst (λ e. IsIn e nest.entries) (sym c.0) a.1;
      alive = subst (λ (e : Entry). IsTrue e.alive) (sym c.0) b.0;
      last = subst (λ e. store_of_entry e ≡ Some w.1) (sym c.0) c.1;
      of_array = c.2;
    }

pub to_writers : (nest : Nest) (array : ℕ) (e : Entry) (y : Access) → Writes nest array e y → IsIn (e, y) (writers nest array)
to_writers nest array e y w =
    to_flat_map (λ e. if e.alive then writer_if array e (store_of_entry e) else []) nest.entries e (e, y) w.among
    (to_if e.alive (writer_if array e (store_of_entry e)) (e, y) w.alive
    (subst (λ o. IsIn (e, y) (writer_if array e o)) (sym w.last) (to_if (nat_eq y.array.0 array) ((e, y) ∷ []) (e, y) (eq-eqb y.array.0 array w.of_array) (inl refl))))
