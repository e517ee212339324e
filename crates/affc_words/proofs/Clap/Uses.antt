-- Names with the values that are given to them.
use Rattle.std.proofs.Common.{◌≡◌, ◌∙◌, ◌&&◌, ◌||◌, ℕ, Bool, true, false, not, true≢false, List, [], ◌∷◌, ◌++◌, Option, Some, None, refl, sym, ap}
use Rattle.std.specs.Option.{is_some}
use Rattle.std.specs.List.{list_any}
use Rattle.std.specs.Str.{bytes_eq}
use Rattle.std.proofs.lemmas.Bool.{or_parts}
use Rattle.std.proofs.lemmas.List.Folds.{list_any-append}
use Rattle.std.proofs.lemmas.Slice.Eq.{bytes_eq-Decides}
use Rattle.affc_words.specs.Command.{among, without, value_of}

abbrev pub Text : Type 0
Text = List ℕ

abbrev pub Uses : Type 0
Uses = List (Text × Text)

-- the name has a value
abbrev pub given : Text → Uses → Bool
given name uses = list_any (λ u. bytes_eq u.0 name) uses

abbrev pub or_value : Option Text → Option Text → Option Text
or_value None other = other
or_value (Some v) other = Some v

-- each operand to the name in its place
abbrev pub paired : List Text → List Text → Uses
paired [] operands = []
paired (id ∷ ids) [] = []
paired (id ∷ ids) (operand ∷ operands) = (id, operand) ∷ paired ids operands

abbrev pub are_distinct : List Text → Bool
are_distinct [] = true
are_distinct (id ∷ ids) = not (among id ids) && are_distinct ids

pub same_name : (a b : Text) → bytes_eq a b ≡ true → a ≡ b
same_name a b e = (bytes_eq-Decides a b).0 e

pub bytes_eq-refl : (a : Text) → bytes_eq a a ≡ true
bytes_eq-refl a = (bytes_eq-Decides a a).1 refl

pub or_true : (a : Bool) → (a || true) ≡ true
or_true true = refl
or_true false = refl

pub or_false : (a : Bool) → (a || false) ≡ a
or_false true = refl
or_false false = refl

pub and_false : (a : Bool) → (a && false) ≡ false
and_false true = refl
and_false false = refl

pub given-append : (x : Text) (uses : Uses) (u : Text × Text) → given x (uses ++ u ∷ []) ≡ (given x uses || bytes_eq u.0 x)
given-append x uses u = list_any-append (λ w. bytes_eq w.0 x) uses (u ∷ []) ∙ ap (λ b. given x uses || b) (or_false (bytes_eq u.0 x))

pub or_value-assoc : (a b c : Option Text) → or_value (or_value a b) c ≡ or_value a (or_value b c)
or_value-assoc None b c = refl
or_value-assoc (Some v) b c = refl

pub value_of-append : (x : Text) (a b : Uses) → value_of x (a ++ b) ≡ or_value (value_of x a) (value_of x b)
value_of-append x [] b = refl
value_of-append x (w ∷ a) b = go (bytes_eq w.0 x) refl (value_of-append x a b)
  where
    go : (t : Bool) → bytes_eq w.0 x ≡ t → value_of x (a ++ b) ≡ or_value (value_of x a) (value_of x b)
        → value_of x (w ∷ (a ++ b)) ≡ or_value (value_of x (w ∷ a)) (value_of x b)
    go true e rest = rw e refl
    go false e rest = rw e rest

-- a name that has no value
pub not_given : (x : Text) (uses : Uses) → given x uses ≡ false → value_of x uses ≡ None
not_given x [] e = refl
not_given x (w ∷ uses) e = let parts = or_parts (bytes_eq w.0 x) (given x uses) e in rw parts.0 (not_given x uses parts.1)

pub is_given : (x : Text) (uses : Uses) → is_some (value_of x uses) ≡ given x uses
is_given x [] = refl
is_given x (w ∷ uses) = go (bytes_eq w.0 x) refl (is_given x uses)
  where
    go : (t : Bool) → bytes_eq w.0 x ≡ t → is_some (value_of x uses) ≡ given x uses → is_some (value_of x (w ∷ uses)) ≡ given x (w ∷ uses)
    go true e rest = rw e refl
    go false e rest = rw e rest

pub not_paired : (x : Text) (ids operands : List Text) → among x ids ≡ false → given x (paired ids operands) ≡ false
not_paired x [] operands e = refl
not_paired x (id ∷ ids) [] e = refl
not_paired x (id ∷ ids) (o ∷ operands) e = let parts = or_parts (bytes_eq id x) (among x ids) e in rw parts.0 (not_paired x ids operands parts.1)

-- the names that are left without one
pub among-without : (x n : Text) (names : List Text) → among x (without n names) ≡ (among x names && not (bytes_eq n x))
among-without x n [] = refl
among-without x n (m ∷ names) = go (bytes_eq m n) (bytes_eq m x) (bytes_eq n x) refl refl refl (among-without x n names)
  where
    go : (s t r : Bool) → bytes_eq m n ≡ s → bytes_eq m x ≡ t → bytes_eq n x ≡ r
        → among x (without n names) ≡ (among x names && not (bytes_eq n x)) → among x (without n (m ∷ names)) ≡ (among x (m ∷ names) && not (bytes_eq n x))
    go true true true e f g rest = rw (e, f, g) (rest ∙ rw g (and_false (among x names)))
    go true true false e f g rest =
        let same : n ≡ x = sym (same_name m n e) ∙ same_name m x f in
        let hit : bytes_eq n x ≡ true = rw same (bytes_eq-refl x) in
        absurd (true≢false (sym hit ∙ g))
    go true false r e f g rest = rw (e, f) rest
    go false true true e f g rest =
        let same : m ≡ n = same_name m x f ∙ sym (same_name n x g) in
        let hit : bytes_eq m n ≡ true = rw same (bytes_eq-refl n) in
        absurd (true≢false (sym hit ∙ e))
    go false true false e f g rest = rw (e, f, g) refl
    go false false r e f g rest = rw (e, f) rest

pub among-own : (id : Text) (ids : List Text) → among id (id ∷ ids) ≡ true
among-own id ids = rw (bytes_eq-refl id) refl

pub not_same : (a b : Text) → (a ≡ b → ⊥) → bytes_eq a b ≡ false
not_same a b differ = go (bytes_eq a b) refl
  where
    go : (t : Bool) → bytes_eq a b ≡ t → bytes_eq a b ≡ false
    go false e = e
    go true e = absurd (differ (same_name a b e))

-- a name that is among some, and one that isn't
pub names_differ : (a b : Text) (names : List Text) → among a names ≡ true → among b names ≡ false → a ≡ b → ⊥
names_differ a b names has none e = true≢false (sym has ∙ (ap (λ x. among x names) e ∙ none))
