-- The systems of two statements, one in a loop that the other shares. Each row was found by hand from the rules.
use Rattle.std.specs.Prelude.{◌≡◌, ℕ, zero, suc, ℤ, pos, negsuc, true, List, [], ◌∷◌, length, refl}
use Rattle.std.proofs.Common.{subst, lit≤}
use Rattle.std.proofs.lemmas.List.Elements.{All-nil, All-cons}
use Rattle.std.proofs.lemmas.Option.{same_Some, none-some}
use Rattle.affc_rows.specs.Forms.{Affine, columns_of, composed_form}
use Rattle.affc_system.specs.Systems.{Rows}
use Rattle.affc_trace.specs.declared.schedule.Schedule.{Schedule}
use Rattle.affc_trace.specs.declared.schedule.Schedule.TheVariants.{Source, Time}
use Rattle.affc_trace.specs.declared.schedule.TimeMap.{TimeMap}
use Rattle.affc_trace.specs.Examples.{undone}
use Rattle.affc_trace.specs.Inverses.{column, GivesColumn}
use Rattle.affc_nest.specs.declared.nest.Entry.{Entry}
use Rattle.affc_nest.specs.declared.nest.Nest.{Nest}
use Rattle.affc_order.specs.Spread.{spread}
use Rattle.affc_order.specs.Systems.{source_systems, target_systems, turned_systems}

abbrev form : List ℤ → ℤ → Affine
form cs k = record { coefs = cs; constant = k }

abbrev over : (columns : ℕ) → List Affine → Rows
over n rows = record { columns = n; rows = rows }

abbrev entry : (statement : ℕ) → (loops : List ℕ) → Entry
entry statement loops = record { part = statement; statement = statement; alive = true; loops = loops; domain = over 0 []; ranges = []; accesses = [] }

-- over N: for i { S0; for j { S1 } }, S2 in a loop of its own, and a second part of S1
abbrev nest : Nest
nest = record {
  params = (pos 1, pos 9) ∷ [];
  context = over 1 [];
  arrays = [];
  entries = entry 0 (0 ∷ []) ∷ entry 1 (0 ∷ 1 ∷ []) ∷ entry 2 (2 ∷ []) ∷ record (entry 1 (0 ∷ 1 ∷ [])) { part = 3 } ∷ [];
}

-- ---- The source

-- over N, i, i', j': i < i'; or i = i', since S0 stands first
abbrev pub FirstInTheLoop : Type 0
FirstInTheLoop = source_systems nest 0 1
    ≡ over 4 (form (pos 0 ∷ negsuc 0 ∷ pos 1 ∷ pos 0 ∷ []) (negsuc 0) ∷ [])
    ∷ over 4 (form (pos 0 ∷ pos 1 ∷ negsuc 0 ∷ pos 0 ∷ []) (pos 0) ∷ form (pos 0 ∷ negsuc 0 ∷ pos 1 ∷ pos 0 ∷ []) (pos 0) ∷ [])
    ∷ []

-- over N, i, j, i': i < i' alone
abbrev pub SecondInTheLoop : Type 0
SecondInTheLoop = source_systems nest 1 0 ≡ over 4 (form (pos 0 ∷ negsuc 0 ∷ pos 0 ∷ pos 1 ∷ []) (negsuc 0) ∷ []) ∷ []

-- over N, i, j, i', j': i < i'; or i = i' and j < j'; no instance comes before itself
abbrev pub TwoOfOneStatement : Type 0
TwoOfOneStatement = source_systems nest 1 1
    ≡ over 5 (form (pos 0 ∷ negsuc 0 ∷ pos 0 ∷ pos 1 ∷ pos 0 ∷ []) (negsuc 0) ∷ [])
    ∷ over 5 (
    form (pos 0 ∷ pos 1 ∷ pos 0 ∷ negsuc 0 ∷ pos 0 ∷ []) (pos 0) ∷ form (pos 0 ∷ negsuc 0 ∷ pos 0 ∷ pos 1 ∷ pos 0 ∷ []) (pos 0)
    ∷ form (pos 0 ∷ pos 0 ∷ negsuc 0 ∷ pos 0 ∷ pos 1 ∷ []) (negsuc 0) ∷ []
    )
    ∷ []

-- all of S0 before all of S2
abbrev pub NoLoopIsShared : Type 0
NoLoopIsShared = (source_systems nest 0 2 ≡ over 3 [] ∷ []) × (source_systems nest 2 0 ≡ [])

-- ---- A target

pub both_undone : (images : List Affine) (f g : Affine) → composed_form f images ≡ column (columns_of images) 1 → composed_form g images ≡ column (columns_of images) 2 → (k : ℕ) → GivesColumn (f ∷ g ∷ []) images 1 k
both_undone images f g e d zero h same = subst (λ h. composed_form h images ≡ column (columns_of images) 1) (same_Some f h same) e
both_undone images f g e d (suc zero) h same = subst (λ h. composed_form h images ≡ column (columns_of images) 2) (same_Some g h same) d
both_undone images f g e d (suc (suc k)) h same = absurd (none-some h same)

-- S0 at (N + i, 1)
abbrev first_map : TimeMap
first_map =
    let a : Affine = form (pos 1 ∷ pos 1 ∷ []) (pos 0) in
    let b : Affine = form (pos 0 ∷ pos 0 ∷ []) (pos 1) in
    let back : Affine = form (negsuc 0 ∷ pos 1 ∷ pos 0 ∷ []) (pos 0) in
    record {
      forms = a ∷ b ∷ [];
      inverse = back ∷ [];
      shaped = All-cons (λ g. length g.coefs ≡ 2) a (b ∷ []) refl (All-cons (λ g. length g.coefs ≡ 2) b [] refl (All-nil (λ g. length g.coefs ≡ 2)));
      inverse_shaped = All-cons (λ g. length g.coefs ≡ 3) back [] refl (All-nil (λ g. length g.coefs ≡ 3));
      at_least_iterators = lit≤ tt;
      inverts = undone (column 2 0 ∷ a ∷ b ∷ []) back refl;
    }

-- S1 at (j, i)
abbrev second_map : TimeMap
second_map =
    let a : Affine = form (pos 0 ∷ pos 0 ∷ pos 1 ∷ []) (pos 0) in
    let b : Affine = form (pos 0 ∷ pos 1 ∷ pos 0 ∷ []) (pos 0) in
    record {
      forms = a ∷ b ∷ [];
      inverse = a ∷ b ∷ [];
      shaped = All-cons (λ g. length g.coefs ≡ 3) a (b ∷ []) refl (All-cons (λ g. length g.coefs ≡ 3) b [] refl (All-nil (λ g. length g.coefs ≡ 3)));
      inverse_shaped = All-cons (λ g. length g.coefs ≡ 3) a (b ∷ []) refl (All-cons (λ g. length g.coefs ≡ 3) b [] refl (All-nil (λ g. length g.coefs ≡ 3)));
      at_least_iterators = lit≤ tt;
      inverts = both_undone (column 3 0 ∷ a ∷ b ∷ []) a b refl refl;
    }

abbrev exchanged : Schedule
exchanged = Time 2 (first_map ∷ second_map ∷ [])

-- over N, i, i', j': N + i < j'; or N + i = j' and 1 < i'; or N + i = j' and 1 = i'
abbrev pub TimesAreCompared : Type 0
TimesAreCompared = target_systems nest 0 1 exchanged
    ≡ over 4 (form (negsuc 0 ∷ negsuc 0 ∷ pos 0 ∷ pos 1 ∷ []) (negsuc 0) ∷ [])
    ∷ over 4 (
    form (pos 1 ∷ pos 1 ∷ pos 0 ∷ negsuc 0 ∷ []) (pos 0) ∷ form (negsuc 0 ∷ negsuc 0 ∷ pos 0 ∷ pos 1 ∷ []) (pos 0)
    ∷ form (pos 0 ∷ pos 0 ∷ pos 1 ∷ pos 0 ∷ []) (negsuc 1) ∷ []
    )
    ∷ over 4 (
    form (pos 1 ∷ pos 1 ∷ pos 0 ∷ negsuc 0 ∷ []) (pos 0) ∷ form (negsuc 0 ∷ negsuc 0 ∷ pos 0 ∷ pos 1 ∷ []) (pos 0)
    ∷ form (pos 0 ∷ pos 0 ∷ negsuc 0 ∷ pos 0 ∷ []) (pos 1) ∷ form (pos 0 ∷ pos 0 ∷ pos 1 ∷ pos 0 ∷ []) (negsuc 0) ∷ []
    )
    ∷ []

-- the other way round, over the same columns: j' < N + i; or j' = N + i and i' < 1
abbrev pub TurnedTimesAreCompared : Type 0
TurnedTimesAreCompared = turned_systems nest 0 1 exchanged
    ≡ over 4 (form (pos 1 ∷ pos 1 ∷ pos 0 ∷ negsuc 0 ∷ []) (negsuc 0) ∷ [])
    ∷ over 4 (
    form (negsuc 0 ∷ negsuc 0 ∷ pos 0 ∷ pos 1 ∷ []) (pos 0) ∷ form (pos 1 ∷ pos 1 ∷ pos 0 ∷ negsuc 0 ∷ []) (pos 0)
    ∷ form (pos 0 ∷ pos 0 ∷ negsuc 0 ∷ pos 0 ∷ []) (pos 0) ∷ []
    )
    ∷ []

-- two parts of one statement stand in one place and have its times
abbrev pub PartsOfOneStatement : Type 0
PartsOfOneStatement = (source_systems nest 1 3 ≡ source_systems nest 1 1) × (target_systems nest 0 3 exchanged ≡ target_systems nest 0 1 exchanged)

-- the order of the source
abbrev pub SourceIsATarget : Type 0
SourceIsATarget = (target_systems nest 0 1 Source ≡ source_systems nest 0 1)
    × (turned_systems nest 0 1 Source ≡ over 4 (form (pos 0 ∷ pos 1 ∷ negsuc 0 ∷ pos 0 ∷ []) (negsuc 0) ∷ []) ∷ [])

-- 3 N + 5 i + 7 with two columns between and one behind
abbrev pub ColumnsBetween : Type 0
ColumnsBetween = spread 1 2 1 (form (pos 3 ∷ pos 5 ∷ []) (pos 7)) ≡ form (pos 3 ∷ pos 0 ∷ pos 0 ∷ pos 5 ∷ pos 0 ∷ []) (pos 7)
