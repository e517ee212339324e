-- Words before the name is looked at.
use Rattle.std.proofs.Common.{◌≡◌, ◌≤◌, ◌-◌, ◌∙◌, Bool, cond, true, false, true≢false, List, [], ◌∷◌, length, take, drop, Option, Some, None, refl, sym, ap, ap₂, arith}
use Rattle.std.specs.Prelude.{String, string_bytes}
use Rattle.std.specs.List.{list_any, slice_index_or}
use Rattle.std.specs.declared.alloc.Global.{Global}
use Rattle.std.proofs.Math.Seq.{take-length}
use Rattle.affc_words.specs.Command.{Word, Operand, Named, End, Stray, answer, command_of, is_empty, parts_of, texts_of, word_of}
use Rattle.affc_words.specs.Parsed.{is_clean}
use Rattle.affc_words.proofs.Clap.Uses.{Text}

-- ---- Words with a stray hyphen

-- where a word begins with one hyphen, there are no parts
pub stray_has_no_parts : (before : Option Text) (ws : List Text) → is_clean ws ≡ false → parts_of before ws ≡ None
stray_has_no_parts before [] e = absurd (true≢false e)
stray_has_no_parts before (word ∷ ws) e = go before (word_of word) refl e (λ waiting. stray_has_no_parts waiting ws)
  where
    go : (before : Option Text) (w : Word) → word_of word ≡ w → is_clean (word ∷ ws) ≡ false → ((waiting : Option Text) → is_clean ws ≡ false → parts_of waiting ws ≡ None)
        → parts_of before (word ∷ ws) ≡ None
    go None Operand is e behind = rw is (rw (behind None (rw is at e)) refl)
    go (Some n) Operand is e behind = rw is (rw (behind None (rw is at e)) refl)
    go None (Named n None) is e behind = rw is (behind (Some n) (rw is at e))
    go None (Named n (Some v)) is e behind = rw is (rw (behind None (rw is at e)) refl)
    go (Some n) (Named m v) is e behind = rw is refl
    go before End is e behind = absurd (true≢false (rw is at e))
    go None Stray is e behind = rw is refl
    go (Some n) Stray is e behind = rw is refl

-- ---- The words with the name

-- what stands behind the first word
abbrev behind : List (String Global) → List Text
behind words = texts_of (take (length words - 1) (drop 1 words))

cut_names : (words : List (String Global)) (name : String Global) → 1 ≤ length words → name ≡ slice_index_or words 0 name → texts_of words ≡ string_bytes name ∷ behind words
cut_names [] name least is = absurd (omega arith)
cut_names (word ∷ words) name least is =
    let all : length (word ∷ words) - 1 ≡ length words = omega arith in
    let whole : take (length (word ∷ words) - 1) words ≡ words = ap (λ n. take n words) all ∙ take-length words in
    ap₂ (λ (w : String Global) ws. string_bytes w ∷ texts_of ws) (sym is) (sym whole)

module _ (words : List (String Global)) (name : String Global) (least : 1 ≤ length words) (is : name ≡ slice_index_or words 0 name) where
  pub refused_empty : list_any is_empty (behind words) ≡ true → None ≡ command_of (texts_of words)
  refused_empty empty = rw (cut_names words name least is, empty) refl

  pub refused_stray : is_clean (behind words) ≡ false → None ≡ command_of (texts_of words)
  refused_stray stray = rw (cut_names words name least is) (go (list_any is_empty (behind words)) (stray_has_no_parts None (behind words) stray))
    where
      go : (b : Bool) → parts_of None (behind words) ≡ None → None ≡ cond b None (answer (string_bytes name) (behind words))
      go true none = refl
      go false none = rw none refl
