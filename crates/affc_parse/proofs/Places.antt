-- Places of tokens, and the prelude among them.
use Rattle.std.proofs.Common.{◌≡◌, ℕ, zero, suc, ◌+◌, ◌<◌, Bool, ◌||◌, List, [], ◌∷◌, length, get_or, drop, map, Option, Some, None, refl, sym, ap, ◌∙◌, slice_get, drop-cons, add-one}
use Rattle.affc_lex.specs.declared.token.Token.{Token}
use Rattle.affc_lex.specs.Lexes.{lexemes}
use Rattle.affc_syntax.specs.declared.draft.symbol.Symbol.{Symbol}
use Rattle.affc_syntax.specs.draft.Symbols.{seen}
use Rattle.affc_grammar.specs.Reads.{place_of, is_prelude, has_prelude}

abbrev pub start_or : ℕ → Option Token → ℕ
start_or end None = end
start_or end (Some t) = t.start

pub place_got : (text : List ℕ) (ts : List Token) (n : ℕ) → start_or (length text) (slice_get ts n) ≡ place_of text (lexemes text ts) n
place_got text [] n = refl
place_got text (t ∷ ts) zero = refl
place_got text (t ∷ ts) (suc n) = place_got text ts n

abbrev pub prelude_from : List Symbol → ℕ → Bool
prelude_from ss i = has_prelude (map seen (drop i ss))

first_from : (ss : List Symbol) (i : ℕ) (s : Symbol) → i < length ss → s ≡ get_or ss i s → prelude_from ss i ≡ (is_prelude s.kind || prelude_from ss (i + 1))
first_from ss i s lt is =
    ap (λ l. has_prelude (map seen l)) (drop-cons ss i s lt)
    ∙ ap (λ x. is_prelude x.kind || has_prelude (map seen (drop (suc i) ss))) (sym is)
    ∙ ap (λ n. is_prelude s.kind || has_prelude (map seen (drop n ss))) (sym (add-one i))
