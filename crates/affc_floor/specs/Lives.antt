-- Which slots are live at an instant, and spans of them.
use Rattle.std.specs.Prelude.{◌≡◌, ◌⊎◌, ℕ, ◌<◌, ◌≤◌, max, List, [], ◌∷◌, ◌++◌, length, get_or, set, Option, Some, slice_get}
use Rattle.affc_floor.specs.declared.span.Span.{Span}
use Rattle.affc_floor.specs.declared.life.Stored.{Stored}
use Rattle.affc_floor.specs.declared.life.Life.{Life}

abbrev pub IsOpen : (i : ℕ) → Span → Type 0
IsOpen i s = (s.from ≤ i) × (i < s.until)

-- the slot is stored at i or before, and the value is wanted after i
pub record IsWanted (stores : List (Option Stored)) (i slot : ℕ) : Type 0 where
  pub at : ℕ
  pub store : Stored
  pub there : slice_get stores at ≡ Some (Some store)
  pub its_slot : store.slot ≡ slot
  pub since : at ≤ i
  pub until : i < store.until

-- one of these spans of the slot is open at i
pub record HasOpen (found : List Life) (i slot : ℕ) : Type 0 where
  pub number : ℕ
  pub life : Life
  pub there : slice_get found number ≡ Some life
  pub its_slot : life.slot ≡ slot
  pub is_open : IsOpen i life.span

-- no two spans of one slot are open at one instant
abbrev pub AreApart : List Life → Type 0
AreApart found = (j k : ℕ) (l m : Life) (i : ℕ) → slice_get found j ≡ Some l → slice_get found k ≡ Some m → l.slot ≡ m.slot → IsOpen i l.span → IsOpen i m.span → j ≡ k

-- a slot is live at an instant exactly where one of its spans is open there, and then it is one
pub record AreLives (stores : List (Option Stored)) (found : List Life) : Type 0 where
  pub live : (i slot : ℕ) → HasOpen found i slot → IsWanted stores i slot
  pub all : (i slot : ℕ) → IsWanted stores i slot → HasOpen found i slot
  pub apart : AreApart found
  pub some : (k : ℕ) (l : Life) → slice_get found k ≡ Some l → l.span.from < l.span.until

-- ---- One store

abbrev pub span_from : (at before : ℕ) → ℕ
span_from at before = max at before

abbrev pub its_life : (at before : ℕ) → Stored → Life
its_life at before s = record { slot = s.slot; span = record { from = span_from at before; until = s.until } }

-- the spans and how far each slot is covered, after a store
abbrev pub IsPlaced : (at : ℕ) → Stored → (covered : List ℕ) → List Life → (covered' : List ℕ) → List Life → Type 0
IsPlaced at s covered found covered' found' =
    ((span_from at (get_or covered s.slot 0) < s.until) × (covered' ≡ set covered s.slot s.until) × (found' ≡ found ++ its_life at (get_or covered s.slot 0) s ∷ []))
    ⊎ ((s.until ≤ span_from at (get_or covered s.slot 0)) × (covered' ≡ covered) × (found' ≡ found))

-- by one of the first so many stores
pub record IsWantedBy (n : ℕ) (stores : List (Option Stored)) (i slot : ℕ) : Type 0 where
  pub wanted : IsWanted stores i slot
  pub before : wanted.at < n

-- what stands after the first stores
pub record AreSoFar (slots at : ℕ) (stores : List (Option Stored)) (covered : List ℕ) (found : List Life) : Type 0 where
  pub long : length covered ≡ slots
  pub live : (i slot : ℕ) → HasOpen found i slot → IsWantedBy at stores i slot
  pub all : (i slot : ℕ) → IsWantedBy at stores i slot → HasOpen found i slot
  pub ahead : (i slot : ℕ) → at ≤ i → i < get_or covered slot 0 → HasOpen found i slot
  pub apart : AreApart found
  pub some : (k : ℕ) (l : Life) → slice_get found k ≡ Some l → (l.span.from < l.span.until) × (l.span.until ≤ get_or covered l.slot 0)
