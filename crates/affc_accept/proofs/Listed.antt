-- The layout of a nest as it is listed, and what it says.
use Rattle.std.proofs.Common.{◌≡◌, ℕ, zero, suc, ◌+◌, ◌-◌, ◌<◌, nat_eq, nat_lt, Bool, true, false, ◌&&◌, if◌then◌else◌, List, [], ◌∷◌, ◌++◌, length, Option, Some, None, refl, sym, ap, subst, inl, inr, arith, ◌∙◌, length-append, append-nil}
use Rattle.std.specs.Prelude.{flat_map, slice_get}
use Rattle.std.proofs.lemmas.Bool.{and_parts}
use Rattle.std.proofs.lemmas.Option.{same_Some, none-some}
use Rattle.affc_trace.specs.Law.{IsIn}
use Rattle.affc_trace.proofs.Members.{to_map}
use Rattle.affc_trace.proofs.Once.{in_append}
use Rattle.affc_trace.proofs.Runs.{slice_left}
use Rattle.affc_nest.specs.declared.nest.Access.{Access}
use Rattle.affc_nest.specs.declared.nest.ArrayInfo.{ArrayInfo}
use Rattle.affc_nest.specs.declared.nest.Entry.{Entry}
use Rattle.affc_nest.specs.declared.nest.Nest.{Nest}
use Rattle.affc_quast.specs.Sources.{loads_in, loads_before}
use Rattle.affc_flow.specs.Asked.{writers_of}
use Rattle.affc_flow.specs.Questions.{is_temp, store_of_entry, Writer, writer_if}
use Rattle.affc_life.proofs.SoughtLemmas.{in_second}
use Rattle.affc_cert.specs.declared.tree.layout.Load.{Load}
use Rattle.affc_cert.specs.declared.tree.layout.Store.{Store}
use Rattle.affc_check.specs.Layouts.{IsLoadIn}
use Rattle.affc_accept.specs.Layouts.{is_of, is_writer, stores_from, load_of, loads_among, loads_of, Dimensions, dimensions_of, temporaries_from, LayoutsAreOfNests}

-- ---- Parts that store an array

abbrev one_if : Bool → Writer → List Writer
one_if t w = if t then w ∷ [] else []

none_of : (t : Bool) (w : Writer) → one_if t w ≡ [] → t ≡ false
none_of true w k = absurd (cc)
none_of false w k = refl

one_of : (t : Bool) (v w : Writer) → one_if t v ≡ w ∷ [] → t ≡ true
one_of true v w k = refl
one_of false v w k = absurd (cc)

no_writer : (array : ℕ) (e : Entry) (alive : Bool) (o : Option Access) → (if alive then writer_if array e o else []) ≡ [] → (alive && is_of array o) ≡ false
no_writer array e false o h = refl
no_writer array e true None h = refl
no_writer array e true (Some x) h = none_of (nat_eq x.array.0 array) (e, x) h

a_writer : (array : ℕ) (e : Entry) (w : Writer) (alive : Bool) (o : Option Access) → (if alive then writer_if array e o else []) ≡ w ∷ [] → (alive && is_of array o) ≡ true
a_writer array e w false o h = absurd (cc)
a_writer array e w true None h = absurd (cc)
a_writer array e w true (Some x) h = one_of (nat_eq x.array.0 array) (e, x) w h

pub is_no_writer : (array : ℕ) (e : Entry) → writers_of array e ≡ [] → is_writer array e ≡ false
is_no_writer array e h = no_writer array e e.alive (store_of_entry e) h

pub is_a_writer : (array : ℕ) (e : Entry) (w : Writer) → writers_of array e ≡ w ∷ [] → is_writer array e ≡ true
is_a_writer array e w h = a_writer array e w e.alive (store_of_entry e) h

-- ---- What stands in a list with choices

-- what is put there where a test holds
pub in_choice : {A : Type 0} (t : Bool) (x y : A) → IsIn y (if t then x ∷ [] else []) → (t ≡ true) × (y ≡ x)
in_choice true x y (inl e) = (refl, e)
in_choice true x y (inr i) = absurd i
in_choice false x y i = absurd i

-- the part of a store
record HasStore (first : ℕ) (es : List Entry) (s : Store) : Type 0 where
  number : ℕ
  entry : Entry
  there : slice_get es number ≡ Some entry
  statement : s.statement ≡ first + number
  loops : s.loops ≡ length entry.loops

store_in : (array first : ℕ) (es : List Entry) (s : Store) → IsIn s (stores_from array first es) → HasStore first es s
store_in array first [] s i = absurd i
store_in array first (e ∷ es) s i =
    let own : Store = record { statement = first; loops = length e.loops } in
    elim (in_append (if is_writer array e then own ∷ [] else []) (stores_from array (first + 1) es) s i) [
      | inl j ↦ (
          let is = (in_choice (is_writer array e) own s j).1 in
          record { number = 0; entry = e; there = refl; statement = ap (λ (x : Store). x.statement) is ∙ none first; loops = ap (λ (x : Store). x.loops) is }
          )
      | inr j ↦ (
          let h = store_in array (first + 1) es s j in
          record { number = suc h.number; entry = h.entry; there = h.there; statement = h.statement ∙ moved first h.number; loops = h.loops }
          )
    ]
  where
    none : (n : ℕ) → n ≡ n + 0
    none n = omega arith

    moved : (m n : ℕ) → (m + 1) + n ≡ m + suc n
    moved m n = omega arith

-- the array of a temporary
pub record HasTemporary (first : ℕ) (as' : List ArrayInfo) (d : Dimensions) : Type 0 where
  pub number : ℕ
  pub info : ArrayInfo
  pub there : slice_get as' number ≡ Some info
  pub array : d.0 ≡ first + number
  pub dimensions : d.1 ≡ length info.extents
  pub own : is_temp info.role ≡ true
  pub some : nat_lt 0 (length info.extents) ≡ true

pub temporary_in : (first : ℕ) (as' : List ArrayInfo) (d : Dimensions) → IsIn d (temporaries_from first as') → HasTemporary first as' d
temporary_in first [] d i = absurd i
temporary_in first (a ∷ as') d i =
    let test = is_temp a.role && nat_lt 0 (length a.extents) in
    let own : Dimensions = (first, length a.extents) in
    elim (in_append (if test then own ∷ [] else []) (temporaries_from (first + 1) as') d i) [
      | inl j ↦ (
          let is = in_choice test own d j in
          let both = and_parts (is_temp a.role) (nat_lt 0 (length a.extents)) is.0 in
          record {
            number = 0;
            info = a;
            there = refl;
            array = ap (λ (x : Dimensions). x.0) is.1 ∙ none first;
            dimensions = ap (λ (x : Dimensions). x.1) is.1;
            own = both.0;
            some = both.1;
          }
          )
      | inr j ↦ (
          let h = temporary_in (first + 1) as' d j in
          record { number = suc h.number; info = h.info; there = h.there; array = h.array ∙ moved first h.number; dimensions = h.dimensions; own = h.own; some = h.some }
          )
    ]
  where
    none : (n : ℕ) → n ≡ n + 0
    none n = omega arith

    moved : (m n : ℕ) → (m + 1) + n ≡ m + suc n
    moved m n = omega arith

-- ---- Loads

loads_many : (nest : Nest) (e : Entry) (xs : List Access) → length (loads_among nest e xs) ≡ length xs - 1
loads_many nest e [] = refl
loads_many nest e (x ∷ []) = refl
loads_many nest e (x ∷ y ∷ ys) = let h = loads_many nest e (y ∷ ys) in omega (arith, h)

all_many : (nest : Nest) (es : List Entry) → length (flat_map (loads_of nest) es) ≡ loads_before es (length es)
all_many nest [] = refl
all_many nest (e ∷ es) =
    let h = all_many nest es in
    let own = loads_many nest e e.accesses in
    let both = length-append (loads_of nest e) (flat_map (loads_of nest) es) in
    omega (arith, h, own, both)

load_among : (nest : Nest) (e : Entry) (xs : List Access) (k : ℕ) → k < length xs - 1 → (x : Access) × (slice_get (loads_among nest e xs) k ≡ Some (load_of nest e x))
load_among nest e [] k l = absurd (omega (arith, l))
load_among nest e (x ∷ []) k l = absurd (omega (arith, l))
load_among nest e (x ∷ y ∷ ys) zero l = (x, refl)
load_among nest e (x ∷ y ∷ ys) (suc k) l = load_among nest e (y ∷ ys) k (omega (arith, l))

load_at : (nest : Nest) (es : List Entry) (s k : ℕ) (e : Entry) → slice_get es s ≡ Some e → k < loads_in e → (x : Access) × (slice_get (flat_map (loads_of nest) es) (loads_before es s + k) ≡ Some (load_of nest e x))
load_at nest [] s k e at l = absurd (none-some e at)
load_at nest (f ∷ es) zero k e at l =
    let same : f ≡ e = same_Some f e at in
    let here = load_among nest e e.accesses k l in
    let there : slice_get (loads_of nest f) k ≡ Some (load_of nest e here.0) = ap (λ (x : Entry). slice_get (loads_of nest x) k) same ∙ here.1 in
    let n : 0 + k ≡ k = omega arith in
    (here.0, ap (slice_get (flat_map (loads_of nest) (f ∷ es))) n ∙ slice_left (loads_of nest f) (flat_map (loads_of nest) es) k (load_of nest e here.0) there)
load_at nest (f ∷ es) (suc s) k e at l =
    let h = load_at nest es s k e at l in
    let own = loads_many nest f f.accesses in
    let n : (loads_in f + loads_before es s) + k ≡ length (loads_of nest f) + (loads_before es s + k) = omega (arith, own) in
    (h.0, in_second (loads_of nest f) (flat_map (loads_of nest) es) ((loads_in f + loads_before es s) + k) (loads_before es s + k) n ∙ h.1)

-- ---- All of it

load_is : (nest : Nest) (e : Entry) (x : Access) → IsLoadIn nest e (load_of nest e x)
load_is nest e x = record {
  columns = refl;
  stores = λ s i.
      let h = store_in x.array.0 0 nest.entries s i in
      let n : 0 + h.number ≡ h.number = omega arith in
      record { entry = h.entry; there = ap (slice_get nest.entries) (h.statement ∙ n) ∙ h.there; loops = h.loops };
}

pub layouts_are_of_nests : LayoutsAreOfNests
layouts_are_of_nests nest layout is = record {
  parameters = is.parameters;
  no_more = ap length is.loads ∙ all_many nest nest.entries;
  loads = λ s k e at l.
      let h = load_at nest nest.entries s k e at l in
      (load_of nest e h.0, ap (λ ls. slice_get ls (loads_before nest.entries s + k)) is.loads ∙ h.1, load_is nest e h.0);
  temporaries = λ t i.
      let h = temporary_in 0 nest.arrays (dimensions_of t) (subst (IsIn (dimensions_of t)) is.temporaries (to_map dimensions_of layout.temporaries t i)) in
      let n : 0 + h.number ≡ h.number = omega arith in
      record { info = h.info; declared = ap (slice_get nest.arrays) (h.array ∙ n) ∙ h.there; dimensions = h.dimensions };
}

-- ---- Lists as they are put together

behind_one : (nest : Nest) (e : Entry) (x : Access) (rest : List Access) → 0 < length rest → loads_among nest e (x ∷ rest) ≡ load_of nest e x ∷ loads_among nest e rest
behind_one nest e x [] l = absurd (omega (arith, l))
behind_one nest e x (y ∷ rest) l = refl

pub nothing_among : (nest : Nest) (e : Entry) (xs : List Access) (old : List Load) → length xs < 2 → old ≡ old ++ loads_among nest e xs
nothing_among nest e [] old l = sym (append-nil old)
nothing_among nest e (x ∷ []) old l = sym (append-nil old)
nothing_among nest e (x ∷ y ∷ xs) old l = absurd (omega (arith, l))
