-- The questions on a small nest. Each row was found by hand from the rules.
use Rattle.std.specs.Prelude.{◌≡◌, ℕ, ℤ, pos, negsuc, true, false, List, [], ◌∷◌, length, map, refl}
use Rattle.std.proofs.Common.{lit≤}
use Rattle.std.proofs.lemmas.List.Elements.{All-nil, All-cons}
use Rattle.std.proofs.lemmas.Option.{none-some}
use Rattle.affc_rows.specs.Forms.{Affine}
use Rattle.affc_system.specs.Systems.{Rows}
use Rattle.affc_trace.specs.declared.schedule.Schedule.{Schedule}
use Rattle.affc_trace.specs.declared.schedule.Schedule.TheVariants.{Source, Time}
use Rattle.affc_trace.specs.declared.schedule.TimeMap.{TimeMap}
use Rattle.affc_trace.specs.Examples.{undone, two_columns}
use Rattle.affc_trace.specs.Inverses.{column}
use Rattle.affc_nest.specs.declared.nest.Access.{Access}
use Rattle.affc_nest.specs.declared.nest.Entry.{Entry}
use Rattle.affc_nest.specs.declared.nest.Nest.{Nest}
use Rattle.affc_sched.specs.Questions.{touches, may_depend, pair_questions, legality_questions}

abbrev form : List ℤ → ℤ → Affine
form cs k = record { coefs = cs; constant = k }

abbrev over : (columns : ℕ) → List Affine → Rows
over n rows = record { columns = n; rows = rows }

abbrev access : (array : ℕ) → List Affine → Access
access array subs = record { array = record { 0 = array }; subs = subs }

-- A[i] and A[i + 1], over N and i
abbrev here : Access
here = access 0 (form (pos 0 ∷ pos 1 ∷ []) (pos 0) ∷ [])

abbrev next : Access
next = access 0 (form (pos 0 ∷ pos 1 ∷ []) (pos 1) ∷ [])

-- over N from 1 to 9, where N >= 2: for (i = 0; i < N; i++) A[i + 1] = A[i];
abbrev shifts : Entry
shifts = record {
  part = 1;
  statement = 1;
  alive = true;
  loops = 0 ∷ [];
  domain = over 2 (
      form (pos 1 ∷ pos 0 ∷ []) (negsuc 0) ∷ form (negsuc 0 ∷ pos 0 ∷ []) (pos 9) ∷ form (pos 1 ∷ pos 0 ∷ []) (negsuc 1)
      ∷ form (pos 0 ∷ pos 1 ∷ []) (pos 0) ∷ form (pos 1 ∷ negsuc 0 ∷ []) (negsuc 0) ∷ []
      );
  ranges = (pos 0, pos 8) ∷ [];
  accesses = here ∷ next ∷ [];
}

-- A[N] = 7;
abbrev last : Entry
last = record {
  part = 2;
  statement = 2;
  alive = true;
  loops = [];
  domain = over 1 (form (pos 1 ∷ []) (negsuc 0) ∷ form (negsuc 0 ∷ []) (pos 9) ∷ form (pos 1 ∷ []) (negsuc 1) ∷ []);
  ranges = [];
  accesses = access 0 (form (pos 1 ∷ []) (pos 0) ∷ []) ∷ [];
}

-- the same in a loop that is never entered, and to another array
abbrev never : (statement : ℕ) → Entry
never statement = record last { part = statement; statement = statement; alive = false }

abbrev other : Entry
other = record last { part = 4; statement = 4; accesses = access 1 (form (pos 1 ∷ []) (pos 0) ∷ []) ∷ [] }

abbrev nest : Nest
nest = record {
  params = (pos 1, pos 9) ∷ [];
  context = over 1 (form (pos 1 ∷ []) (negsuc 1) ∷ []);
  arrays = [];
  entries = never 0 ∷ shifts ∷ last ∷ never 3 ∷ other ∷ [];
}

-- at -i
abbrev backwards : TimeMap
backwards =
    let a : Affine = form (pos 0 ∷ negsuc 0 ∷ []) (pos 0) in
    record {
      forms = a ∷ [];
      inverse = a ∷ [];
      shaped = two_columns a refl;
      inverse_shaped = two_columns a refl;
      at_least_iterators = lit≤ tt;
      inverts = undone (column 2 0 ∷ a ∷ []) a refl;
    }

-- at 0
abbrev at_none : TimeMap
at_none =
    let a : Affine = form (pos 0 ∷ []) (pos 0) in
    record {
      forms = a ∷ [];
      inverse = [];
      shaped = All-cons (λ g. length g.coefs ≡ 1) a [] refl (All-nil (λ g. length g.coefs ≡ 1));
      inverse_shaped = All-nil (λ g. length g.coefs ≡ 2);
      at_least_iterators = lit≤ tt;
      inverts = λ k g same. absurd (none-some g same);
    }

abbrev reversed : Schedule
reversed = Time 1 (at_none ∷ backwards ∷ at_none ∷ at_none ∷ at_none ∷ [])

-- ---- Which accesses are asked of

-- the last access is the store
abbrev pub LastOneStores : Type 0
LastOneStores = touches (here ∷ next ∷ []) ≡ (here, false) ∷ (next, true) ∷ []

-- two loads don't depend on each other, and neither do accesses of different arrays
abbrev pub StoresOfOneArray : Type 0
StoresOfOneArray = (may_depend (here, false) (next, false) ≡ false)
    × (may_depend (here, true) (next, false) ≡ true)
    × (may_depend (here, false) (next, true) ≡ true)
    × (may_depend (here, true) (access 1 next.subs, true) ≡ false)

-- A[i] before A[i' + 1], A[i] before A[N]; A[i + 1] before A[i'], before A[i' + 1], before A[N]; nothing comes after A[N]
abbrev pub QuestionsInOrder : Type 0
QuestionsInOrder = map {B = ℕ × ℕ} (λ q. (q.first, q.second)) (legality_questions nest reversed) ≡ (1, 1) ∷ (1, 2) ∷ (1, 1) ∷ (1, 1) ∷ (1, 2) ∷ []

-- none of the order of the source
abbrev pub SourceIsLegal : Type 0
SourceIsLegal = legality_questions nest Source ≡ []

-- ---- Their rows

-- over N, i, i', with the loads A[i] and the stores A[i' + 1]: both domains, i = i' + 1, i < i', and -i' < -i
abbrev pub RowsOfAQuestion : Type 0
RowsOfAQuestion = pair_questions nest shifts shifts reversed here next
    ≡ record {
      first = 1;
      second = 1;
      system = over 3 (
          form (pos 1 ∷ pos 0 ∷ pos 0 ∷ []) (negsuc 0) ∷ form (negsuc 0 ∷ pos 0 ∷ pos 0 ∷ []) (pos 9) ∷ form (pos 1 ∷ pos 0 ∷ pos 0 ∷ []) (negsuc 1)
          ∷ form (pos 0 ∷ pos 1 ∷ pos 0 ∷ []) (pos 0) ∷ form (pos 1 ∷ negsuc 0 ∷ pos 0 ∷ []) (negsuc 0)
          ∷ form (pos 0 ∷ pos 0 ∷ pos 1 ∷ []) (pos 0) ∷ form (pos 1 ∷ pos 0 ∷ negsuc 0 ∷ []) (negsuc 0)
          ∷ form (pos 0 ∷ pos 1 ∷ negsuc 0 ∷ []) (negsuc 0) ∷ form (pos 0 ∷ negsuc 0 ∷ pos 1 ∷ []) (pos 1)
          ∷ form (pos 0 ∷ negsuc 0 ∷ pos 1 ∷ []) (negsuc 0)
          ∷ form (pos 0 ∷ negsuc 0 ∷ pos 1 ∷ []) (negsuc 0) ∷ []
          );
      ranges = (pos 1, pos 9) ∷ (pos 0, pos 8) ∷ (pos 0, pos 8) ∷ [];
    } ∷ []

-- over N, i, with the stores A[i + 1] and A[N]: i + 1 = N, and 0 < -i
abbrev pub RowsOfTwoStatements : Type 0
RowsOfTwoStatements = pair_questions nest shifts last reversed next (access 0 (form (pos 1 ∷ []) (pos 0) ∷ []))
    ≡ record {
      first = 1;
      second = 2;
      system = over 2 (
          form (pos 1 ∷ pos 0 ∷ []) (negsuc 0) ∷ form (negsuc 0 ∷ pos 0 ∷ []) (pos 9) ∷ form (pos 1 ∷ pos 0 ∷ []) (negsuc 1)
          ∷ form (pos 0 ∷ pos 1 ∷ []) (pos 0) ∷ form (pos 1 ∷ negsuc 0 ∷ []) (negsuc 0)
          ∷ form (negsuc 0 ∷ pos 1 ∷ []) (pos 1) ∷ form (pos 1 ∷ negsuc 0 ∷ []) (negsuc 0)
          ∷ form (pos 0 ∷ negsuc 0 ∷ []) (negsuc 0) ∷ []
          );
      ranges = (pos 1, pos 9) ∷ (pos 0, pos 8) ∷ [];
    } ∷ []
