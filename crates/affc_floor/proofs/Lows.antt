-- Extents below 1.
use Rattle.std.proofs.Common.{◌≡◌, ℕ, ◌+◌, ℤ, pos, Bool, true, false, ◌||◌, if◌then◌else◌, int_lt, List, [], ◌∷◌, ◌++◌, length, map, sum_by, Option, Some, None, Result, Ok, Err, refl, sym, ap, subst, ◌∙◌, inl, inr, arith}
use Rattle.std.proofs.lemmas.Option.{same_Some}
use Rattle.affc_ast.specs.declared.tree.Decl.{Decl}
use Rattle.affc_ast.specs.declared.tree.Ix.{Ix}
use Rattle.affc_ast.specs.Cause.{Cause, Extent, ◌>>=◌}
use Rattle.affc_ast.specs.Fits.{whole}
use Rattle.affc_ast.specs.Index.{index_value, nodes_of_ix, nodes_of_compare}
use Rattle.affc_ast.specs.Meaning.{State, Outcome, Stuck, reading, arrays_of, nodes_of_decls, extents_of, all_extents, in_order, denotation_of}
use Rattle.affc_trace.specs.Law.{IsIn, or_else}
use Rattle.affc_trace.proofs.LastStores.{IsSome}
use Rattle.affc_trace.proofs.Members.{to_first, to_second}
use Rattle.affc_domain.specs.Arrays.{extents_at}
use Rattle.affc_safe.specs.Overflow.{AreReadable}
use Rattle.affc_floor.specs.Faults.{some_low, first_low}
use Rattle.affc_floor.specs.FaultLaws.{LowExtentStops}

-- what is read of extents
abbrev read_by : {A : Type 0} → Option ℕ → A → Result A Cause
read_by None x = Ok x
read_by (Some array) x = Err (Extent array)

abbrev when : Bool → ℕ → Option ℕ
when true array = Some array
when false array = None

bind_is : {A B : Type 0} (r : Result A Cause) (x : A) (f : A → Result B Cause) (q : Result B Cause) → r ≡ Ok x → f x ≡ q → r >>= f ≡ q
bind_is r x f q e g = ap (λ s. s >>= f) e ∙ g

one_extents : (p : List ℤ) (es : List Ix) → AreReadable es p → (array node : ℕ) → extents_of array es node p ≡ read_by (when (some_low es p) array) (map (λ e. whole e p) es)
one_extents p [] r array node = refl
one_extents p (e ∷ es) r array node =
    bind_is (index_value e node p) (whole e p) _ _ (r.0 node) (by_test (int_lt (whole e p) (pos 1)) (one_extents p es r.1 array (node + nodes_of_ix e)))
  where
    cons : (o : Option ℕ) → read_by o (map (λ e. whole e p) es) >>= (λ ns. Ok (whole e p ∷ ns)) ≡ read_by o (map (λ e. whole e p) (e ∷ es))
    cons None = refl
    cons (Some a) = refl

    by_test : (t : Bool) → extents_of array es (node + nodes_of_ix e) p ≡ read_by (when (some_low es p) array) (map (λ e. whole e p) es)
        → (if t then Err (Extent array) else extents_of array es (node + nodes_of_ix e) p) >>= (λ ns. Ok (whole e p ∷ ns)) ≡ read_by (when (t || some_low es p) array) (map (λ e. whole e p) (e ∷ es))
    by_test true q = refl
    by_test false q = ap (λ s. s >>= (λ ns. Ok (whole e p ∷ ns))) q ∙ cons (when (some_low es p) array)

all_read_by : (p : List ℤ) (ds : List Decl) → ((d : Decl) → IsIn d ds → AreReadable d.extents p) → (array node : ℕ) → all_extents array ds node p ≡ read_by (first_low array ds p) (extents_at ds p)
all_read_by p [] r array node = refl
all_read_by p (d ∷ ds) r array node =
    ap (λ s. s >>= (λ ns. all_extents (array + 1) ds (node + sum_by nodes_of_ix d.extents) p >>= (λ rest. Ok (ns ∷ rest)))) (one_extents p d.extents (r d (inl refl)) array node)
    ∙ by_test (some_low d.extents p) (all_read_by p ds (λ c i. r c (inr i)) (array + 1) (node + sum_by nodes_of_ix d.extents))
  where
    cons : (o : Option ℕ) → read_by o (extents_at ds p) >>= (λ rest. Ok (map (λ e. whole e p) d.extents ∷ rest)) ≡ read_by o (extents_at (d ∷ ds) p)
    cons None = refl
    cons (Some a) = refl

    by_test : (t : Bool) → all_extents (array + 1) ds (node + sum_by nodes_of_ix d.extents) p ≡ read_by (first_low (array + 1) ds p) (extents_at ds p)
        → read_by (when t array) (map (λ e. whole e p) d.extents) >>= (λ ns. all_extents (array + 1) ds (node + sum_by nodes_of_ix d.extents) p >>= (λ rest. Ok (ns ∷ rest)))
        ≡ read_by (if t then Some array else first_low (array + 1) ds p) (extents_at (d ∷ ds) p)
    by_test true q = refl
    by_test false q = ap (λ s. s >>= (λ rest. Ok (map (λ e. whole e p) d.extents ∷ rest))) q ∙ cons (first_low (array + 1) ds p)

low_append : (array : ℕ) (ds es : List Decl) (p : List ℤ) → first_low array (ds ++ es) p ≡ or_else (first_low array ds p) (first_low (array + length ds) es p)
low_append array [] es p = let e : array ≡ array + 0 = omega arith in ap (λ n. first_low n es p) e
low_append array (d ∷ ds) es p = by_test (some_low d.extents p) (low_append (array + 1) ds es p)
  where
    next : array + 1 + length ds ≡ array + length (d ∷ ds)
    next = omega arith

    by_test : (t : Bool) → first_low (array + 1) (ds ++ es) p ≡ or_else (first_low (array + 1) ds p) (first_low (array + 1 + length ds) es p)
        → (if t then Some array else first_low (array + 1) (ds ++ es) p) ≡ or_else (if t then Some array else first_low (array + 1) ds p) (first_low (array + length (d ∷ ds)) es p)
    by_test true q = refl
    by_test false q = q ∙ ap (λ n. or_else (first_low (array + 1) ds p) (first_low n es p)) next

-- two readings, one after the other
stuck_at : {A B : Type 0} (o u : Option ℕ) (x : A) (y : B) (t : State) (f : A → B → Outcome) (array : ℕ) → or_else o u ≡ Some array
    → reading (read_by o x) t (λ x. reading (read_by u y) t (λ y. f x y)) ≡ Stuck (Extent array) t.steps
stuck_at None None x y t f array e = absurd (subst IsSome (sym e) tt)
stuck_at None (Some a) x y t f array e = ap (λ n. Stuck (Extent n) t.steps) (same_Some a array e)
stuck_at (Some a) u x y t f array e = ap (λ n. Stuck (Extent n) t.steps) (same_Some a array e)

two_readings : {A B : Type 0} (r : Result A Cause) (q : Result B Cause) (o u : Option ℕ) (x : A) (y : B) (t : State) (f : A → B → Outcome) (array : ℕ) → r ≡ read_by o x → q ≡ read_by u y → or_else o u ≡ Some array
    → reading r t (λ a. reading q t (λ b. f a b)) ≡ Stuck (Extent array) t.steps
two_readings r q o u x y t f array e g low =
    ap (λ s. reading s t (λ a. reading q t (λ b. f a b))) e ∙ ap (λ s. reading (read_by o x) t (λ a. reading s t (λ b. f a b))) g ∙ stuck_at o u x y t f array low

from_zero : (n : ℕ) → n ≡ 0 + n
from_zero n = omega arith

pub low_extent_stops : LowExtentStops
low_extent_stops program p store array readable low =
    let given : List Decl = arrays_of program.params in
    let start : State = record { store = store; written = []; steps = 0 } in
    let temps : ℕ = nodes_of_decls (arrays_of program.params) + sum_by nodes_of_compare program.context in
    let both : or_else (first_low 0 given p) (first_low (length given) program.temps p) ≡ Some array =
    ap (λ n. or_else (first_low 0 given p) (first_low n program.temps p)) (from_zero (length given)) ∙ sym (low_append 0 given program.temps p) ∙ low in
    two_readings (all_extents 0 given 0 p) (all_extents (length given) program.temps temps p) (first_low 0 given p) (first_low (length given) program.temps p) (extents_at given p) (extents_at program.temps p) start
    (λ a b. in_order (map denotation_of program.body) (record { node = temps + nodes_of_decls program.temps; statement = 0 }) (record { names = p; iterators = []; extents = a ++ b }) start) array
    (all_read_by p given (λ d i. readable d (to_first given program.temps d i)) 0 0) (all_read_by p program.temps (λ d i. readable d (to_second given program.temps d i)) (length given) temps) both
