-- Empty folds as they are put together.
use Rattle.std.proofs.Common.{◌≡◌, ℕ, ◌+◌, nat_eq, Bool, true, false, ◌&&◌, if◌then◌else◌, List, [], ◌∷◌, ◌++◌, length, map, refl, sym, ap, ◌∙◌, append_assoc, append-nil}
use Rattle.std.specs.List.{All}
use Rattle.std.proofs.lemmas.List.Elements.{All-nil, All-cons}
use Rattle.affc_ast.specs.declared.tree.ArrayId.{ArrayId}
use Rattle.affc_trace.proofs.LastStores.{map_append}
use Rattle.affc_basis.specs.declared.fold.Fold.{Fold}
use Rattle.affc_nest.specs.declared.nest.ArrayInfo.{ArrayInfo}
use Rattle.affc_flow.specs.Questions.{is_temp}
use Rattle.affc_replay.specs.Folds.{scalars_from}
use Rattle.affc_replay.specs.Scalars.{scalar_if, HasScalars}

abbrev number_of : ArrayId × Fold → ℕ
number_of f = f.0.0

abbrev IsEmpty : ArrayId × Fold → Type 0
IsEmpty f = f.1.basis.rows ≡ []

numbers_if : (t : Bool) (n : ℕ) (fold : Fold) → map number_of (scalar_if t n fold) ≡ (if t then n ∷ [] else [])
numbers_if true n fold = refl
numbers_if false n fold = refl

empty_more : (t : Bool) (n : ℕ) (fold : Fold) (folds : List (ArrayId × Fold)) → fold.basis.rows ≡ [] → All IsEmpty folds → All IsEmpty (scalar_if t n fold ++ folds)
empty_more true n fold folds e h = All-cons IsEmpty (record { 0 = n }, fold) folds e h
empty_more false n fold folds e h = h

pub no_scalars : (first : ℕ) (as' : List ArrayInfo) (old : List (ArrayId × Fold)) → as' ≡ [] → HasScalars first as' old old
no_scalars first as' old e = record {
  scalars = [];
  are_empty = record { of_arrays = sym (ap (scalars_from first) e); empty = All-nil IsEmpty };
  put = sym (append-nil old);
}

pub scalars_more : (first next : ℕ) (as' rest : List ArrayInfo) (a : ArrayInfo) (fold : Fold) (old mid new : List (ArrayId × Fold)) → as' ≡ a ∷ rest → next ≡ first + 1 → fold.basis.rows ≡ []
    → mid ≡ old ++ scalar_if (is_temp a.role && nat_eq (length a.extents) 0) first fold → HasScalars next rest mid new → HasScalars first as' old new
scalars_more first next as' rest a fold old mid new is n e f h =
    let t = is_temp a.role && nat_eq (length a.extents) 0 in
    let own = scalar_if t first fold in
    record {
      scalars = own ++ h.scalars;
      are_empty = record {
        of_arrays = map_append number_of own h.scalars
            ∙ ap (λ ns. ns ++ map number_of h.scalars) (numbers_if t first fold)
            ∙ ap (λ ns. (if t then first ∷ [] else []) ++ ns) h.are_empty.of_arrays
            ∙ ap (λ m. (if t then first ∷ [] else []) ++ scalars_from m rest) n
            ∙ sym (ap (scalars_from first) is);
        empty = empty_more t first fold h.scalars e h.are_empty.empty;
      };
      put = h.put ∙ ap (λ z. z ++ h.scalars) f ∙ append_assoc old own h.scalars;
    }
