-- What the proofs of the forms share.
use Rattle.std.proofs.Common.{◌≡◌, ◌∙◌, ◌&&◌, ◌||◌, Bool, true, false, true≢false, List, [], ◌∷◌, Option, Some, None, refl, sym, ap, subst}
use Rattle.std.specs.Str.{bytes_eq}
use Rattle.clap.specs.Walk.{first_of, rows_of}
use Rattle.clap.specs.Simple.{App, matches_of}
use Rattle.clap.specs.Matches.{first_value}
use Rattle.clap.specs.declared.parser.matches.Found.{Found}
use Rattle.clap.proofs.WalkLemmas.{first_value-rows}
use Rattle.affc_words.specs.Command.{among}
use Rattle.affc_words.proofs.Clap.Uses.{Text, or_false, same_name}

pub and_true : (b : Bool) → (b && true) ≡ b
and_true true = refl
and_true false = refl

-- ---- Names of options

-- the only name
pub only : (name n : Text) → among n (name ∷ []) ≡ true → name ≡ n
only name n has = same_name name n (sym (or_false (bytes_eq name n)) ∙ has)

-- one of two names
either : (P : Text → Type 0) (a b n : Text) → P a → P b → among n (a ∷ b ∷ []) ≡ true → P n
either P a b n first second has = by_test (bytes_eq a n) refl has
  where
    by_test : (t : Bool) → bytes_eq a n ≡ t → (t || among n (b ∷ [])) ≡ true → P n
    by_test true e has = subst P (same_name a n e) first
    by_test false e has = subst P (only b n has) second

-- one of three names
pub one_of_three : (P : Text → Type 0) (a b c n : Text) → P a → P b → P c → among n (a ∷ b ∷ c ∷ []) ≡ true → P n
one_of_three P a b c n first second third has = by_test (bytes_eq a n) refl has
  where
    by_test : (t : Bool) → bytes_eq a n ≡ t → (t || among n (b ∷ c ∷ [])) ≡ true → P n
    by_test true e has = subst P (same_name a n e) first
    by_test false e has = either P b c n second third has

pub none_of_three : (a b c n : Text) → among n (a ∷ b ∷ c ∷ []) ≡ false → (bytes_eq a n ≡ false) × (bytes_eq b n ≡ false) × (bytes_eq c n ≡ false)
none_of_three a b c n none = by_tests (bytes_eq a n) (bytes_eq b n) (bytes_eq c n) none
  where
    by_tests : (t u v : Bool) → (t || (u || (v || false))) ≡ false → (t ≡ false) × (u ≡ false) × (v ≡ false)
    by_tests true u v e = absurd (true≢false e)
    by_tests false true v e = absurd (true≢false e)
    by_tests false false true e = absurd (true≢false e)
    by_tests false false false e = (refl, refl, refl)

-- ---- Texts in the matches

pub text_at : (f : Found) (app : App) (ws : List Text) (id : Text) (o : Option Text) → rows_of f ≡ matches_of app ws → first_of id (matches_of app ws) ≡ o → first_value f id ≡ o
text_at f app ws id o rows is = first_value-rows f id ∙ ap (first_of id) rows ∙ is

pub no_text : (t : Text) → ◌≡◌ {A = Option Text} None (Some t) → ⊥
no_text t e = cc

pub some_text : {s t : Text} → ◌≡◌ {A = Option Text} (Some s) (Some t) → s ≡ t
some_text e = cc
