-- Where clap's walk stands between two words, at a command of plain arguments.
use Rattle.std.proofs.Common.{◌≡◌, ◌∙◌, ◌&&◌, ◌||◌, ◌+◌, ℕ, Bool, true, false, not, true≢false, List, [], ◌∷◌, ◌++◌, Option, Some, None, refl, sym, ap, ap₂}
use Rattle.std.proofs.lemmas.Bool.{and_parts, or_parts, or_right}
use Rattle.std.specs.Prelude.{min}
use Rattle.std.specs.Str.{bytes_eq}
use Rattle.std.proofs.lemmas.List.{map-append}
use Rattle.clap.specs.Lexer.{usize_max}
use Rattle.clap.specs.Walk.{Held, Rule, arg_by_id, arg_by_index, arg_by_long, reacted, settled, used}
use Rattle.clap.specs.Faults.{react_fault, settle_fault, use_fault}
use Rattle.affc_words.specs.Command.{among, without}
use Rattle.affc_words.proofs.Clap.Uses.{Text, Uses, given, are_distinct, given-append, among-without, or_false, not_same, names_differ}
use Rattle.affc_words.proofs.Clap.Plain.{plain_rule, row_for, rows_for, has_row-rows_for, used-fresh, use_fault-fresh, use_fault-again, use_fault-none, or_else-second}
use Rattle.affc_words.proofs.Clap.Turns.{pending}

module _ (c : List Rule) where
  -- the option of this name
  pub record IsOption (n : Text) : Type 0 where
    pub long : Option Text
    pub index : Option ℕ
    pub required : Bool
    pub by_long : arg_by_long c n ≡ Some (plain_rule n long index required)
    pub by_id : arg_by_id c n ≡ Some (plain_rule n long index required)

  -- the operand at this place
  pub record IsPlace (p : ℕ) (id : Text) : Type 0 where
    pub long : Option Text
    pub index : Option ℕ
    pub required : Bool
    pub by_index : arg_by_index c p ≡ Some (plain_rule id long index required)
    pub by_id : arg_by_id c id ≡ Some (plain_rule id long index required)

  -- these operands stand from this place on, and no more
  abbrev pub Follow : ℕ → List Text → Type 0
  Follow p [] = arg_by_index c p ≡ None
  Follow p (id ∷ ids) = IsPlace p id × Follow (min (p + 1) usize_max) ids

  -- the options are those of these names
  pub record HasOptions (all : List Text) : Type 0 where
    pub these : (n : Text) → among n all ≡ true → IsOption n
    pub no_other : (n : Text) → among n all ≡ false → arg_by_long c n ≡ None

  -- the rows, with what is pending, are of these uses
  pub record Holds (uses : Uses) (h : Held) : Type 0 where
    pub fault : settle_fault c false h ≡ []
    pub rows : (settled c h).rows ≡ rows_for uses

  module _ (id : Text) (long : Option Text) (index : Option ℕ) (required : Bool) where
    abbrev rule : Rule
    rule = plain_rule id long index required

    rows_behind : (uses : Uses) (v : Text) → given id uses ≡ false → used rule (v ∷ []) (rows_for uses) ≡ rows_for (uses ++ (id, v) ∷ [])
    rows_behind uses v fresh =
        used-fresh id long index required v (rows_for uses) (has_row-rows_for id uses ∙ fresh) ∙ sym (map-append row_for uses ((id, v) ∷ []))

    pub holds-pending : (uses : Uses) (h : Held) (v : Text) → arg_by_id c id ≡ Some rule → h.rows ≡ rows_for uses → given id uses ≡ false
        → Holds (uses ++ (id, v) ∷ []) (pending h id (v ∷ []))
    holds-pending uses h v found rows fresh = record {
      fault = rw (found, rows) (use_fault-fresh id long index required v (rows_for uses) (has_row-rows_for id uses ∙ fresh));
      rows = rw (found, rows) (rows_behind uses v fresh);
    }

    pub again-pending : (uses : Uses) (h : Held) (v : Text) → arg_by_id c id ≡ Some rule → h.rows ≡ rows_for uses → given id uses ≡ true
        → settle_fault c false (pending h id (v ∷ [])) ≡ [] → ⊥
    again-pending uses h v found rows again e =
        let f = rw (found, rows) at e in use_fault-again id long index required v (rows_for uses) (has_row-rows_for id uses ∙ again) f

    pub none-pending : (h : Held) → arg_by_id c id ≡ Some rule → settle_fault c false (pending h id []) ≡ [] → ⊥
    none-pending h found e = let f = rw found at e in use_fault-none id long index required h.rows f

    pub react_fault-fresh : (uses : Uses) (h : Held) (v : Text) → Holds uses h → given id uses ≡ false → react_fault c false rule (v ∷ []) h ≡ []
    react_fault-fresh uses h v holds fresh =
        rw (holds.fault, holds.rows) (use_fault-fresh id long index required v (rows_for uses) (has_row-rows_for id uses ∙ fresh))

    pub react_fault-again : (uses : Uses) (h : Held) (v : Text) → Holds uses h → given id uses ≡ true → react_fault c false rule (v ∷ []) h ≡ [] → ⊥
    react_fault-again uses h v holds again e =
        let f = rw holds.rows at (or_else-second (settle_fault c false h) (use_fault false rule (v ∷ []) (settled c h).rows) e) in
        use_fault-again id long index required v (rows_for uses) (has_row-rows_for id uses ∙ again) f

    pub holds-reacted : (uses : Uses) (h : Held) (v : Text) → Holds uses h → given id uses ≡ false → Holds (uses ++ (id, v) ∷ []) (reacted c rule (v ∷ []) h)
    holds-reacted uses h v holds fresh = record { fault = refl; rows = ap (used rule (v ∷ [])) holds.rows ∙ rows_behind uses v fresh }

  -- Between two words: these uses went before, and these operands and options are left.
  pub record Stands (all : List Text) (uses : Uses) (ids names : List Text) (p : ℕ) : Type 0 where
    pub follow : Follow p ids
    pub distinct : are_distinct ids ≡ true
    pub apart : (x : Text) → among x all ≡ true → among x ids ≡ false
    pub left : (x : Text) → among x names ≡ (among x all && not (given x uses))
    pub fresh : (x : Text) → among x ids ≡ true → given x uses ≡ false

module _ (c : List Rule) (all : List Text) (uses : Uses) where
  -- the next operand
  pub stands-operand : (id v : Text) (ids names : List Text) (p : ℕ) → Stands c all uses (id ∷ ids) names p
      → Stands c all (uses ++ (id, v) ∷ []) ids names (min (p + 1) usize_max)
  stands-operand id v ids names p s =
      let parts = and_parts (not (among id ids)) (are_distinct ids) s.distinct in
      let once : among id ids ≡ false = not_true (among id ids) parts.0 in
      record {
        follow = s.follow.1;
        distinct = parts.1;
        apart = λ x has. (or_parts (bytes_eq id x) (among x ids) (s.apart x has)).1;
        left = λ x. left x (among x all) refl;
        fresh = λ x has. given-append x uses (id, v) ∙ ap₂ (λ a b. a || b) (s.fresh x (or_right (bytes_eq id x) (among x ids) has)) (not_same id x (λ e. names_differ x id ids has once (sym e)));
      }
    where
      not_true : (b : Bool) → not b ≡ true → b ≡ false
      not_true false e = refl
      not_true true e = absurd (true≢false (sym e))

      left : (x : Text) (b : Bool) → among x all ≡ b → among x names ≡ (among x all && not (given x (uses ++ (id, v) ∷ [])))
      left x false e = s.left x ∙ rw e refl
      left x true e =
          let miss : bytes_eq id x ≡ false = (or_parts (bytes_eq id x) (among x ids) (s.apart x e)).0 in
          s.left x ∙ rw (given-append x uses (id, v), miss, or_false (given x uses)) refl

  -- an option that is left
  pub stands-option : (n v : Text) (ids names : List Text) (p : ℕ) → Stands c all uses ids names p → among n all ≡ true
      → Stands c all (uses ++ (n, v) ∷ []) ids (without n names) p
  stands-option n v ids names p s known = record {
    follow = s.follow;
    distinct = s.distinct;
    apart = s.apart;
    left = λ x. among-without x n names ∙ ap (λ b. b && not (bytes_eq n x)) (s.left x) ∙ more (among x all) (given x uses) (bytes_eq n x)
        ∙ ap (λ b. among x all && not b) (sym (given-append x uses (n, v)));
    fresh = λ x has. given-append x uses (n, v) ∙ ap₂ (λ a b. a || b) (s.fresh x has) (not_same n x (λ e. names_differ x n ids has (s.apart n known) (sym e)));
  }
    where
      more : (a g e : Bool) → ((a && not g) && not e) ≡ (a && not (g || e))
      more false g e = refl
      more true true e = refl
      more true false e = refl
