-- A word as clap's lexer reads it.
use Rattle.std.proofs.Common.{◌≡◌, ℕ, Bool, true, false, List, [], ◌∷◌, Option, Some, None, refl, codes}
use Rattle.std.specs.Prelude.{◌==◌}
use Rattle.std.specs.List.{before_first}
use Rattle.std.specs.Str.{bytes_eq}
use Rattle.clap.specs.Lexer.{long_of, short_of}
use Rattle.affc_words.specs.Command.{Operand, Named, End, Stray, word_of, is_equals, value_in}

pub data Lexed (word : List ℕ) : Type 0 where
  operand : word_of word ≡ Operand → bytes_eq word (codes "--") ≡ false → long_of word ≡ None → short_of word ≡ None → Lexed word
  named : (name : List ℕ) (value : Option (List ℕ)) → word_of word ≡ Named name value → bytes_eq word (codes "--") ≡ false → long_of word ≡ Some (name, value) → Lexed word
  ends : word_of word ≡ End → bytes_eq word (codes "--") ≡ true → Lexed word
  stray : word_of word ≡ Stray → Lexed word

third : (a b : ℕ) (rest : List ℕ) → (a == 45) ≡ true → (b == 45) ≡ true → Lexed (a ∷ b ∷ rest)
third a b [] e f = ends (rw (e, f) refl) (rw (e, f) refl)
third a b (c ∷ rest) e f = named (before_first is_equals (c ∷ rest)) (value_in (c ∷ rest)) (rw (e, f) refl) (rw (e, f) refl) (rw (e, f) refl)

second : (a : ℕ) (rest : List ℕ) → (a == 45) ≡ true → Lexed (a ∷ rest)
second a [] e = stray (rw e refl)
second a (b ∷ rest) e = go (b == 45) refl
  where
    go : (t : Bool) → (b == 45) ≡ t → Lexed (a ∷ b ∷ rest)
    go true f = third a b rest e f
    go false f = stray (rw (e, f) refl)

pub lexed : (word : List ℕ) → Lexed word
lexed [] = operand refl refl refl refl
lexed (a ∷ rest) = go (a == 45) refl
  where
    go : (t : Bool) → (a == 45) ≡ t → Lexed (a ∷ rest)
    go true e = second a rest e
    go false e = operand (rw e refl) (rw e refl) (rw e refl) (rw e refl)
