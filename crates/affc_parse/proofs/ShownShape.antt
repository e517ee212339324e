-- Limits on the shape of tokens, and the prelude among them, don't depend on how a Header is shown.
use Rattle.std.proofs.Common.{◌≡◌, ℕ, ◌+◌, nat_lt, ◌||◌, List, [], ◌∷◌, ◌++◌, map, refl, ap, ◌∙◌}
use Rattle.affc_lex.specs.declared.token.Kind.{Kind}
use Rattle.affc_lex.specs.declared.token.Kind.TheVariants.{Word, Number, Value, Header, Hash, LineEnd, Prelude, Mark}
use Rattle.affc_lex.specs.Lexes.{Lexeme}
use Rattle.affc_grammar.specs.Grammar.{Symbol, symbol}
use Rattle.affc_grammar.specs.Limits.{Limits, at_if, tokens_past, count_token, count_run, count_open, count_item, shape_passed, passed_at}
use Rattle.affc_grammar.specs.declared.fault.LimitName.TheVariants.{Tokens, Run, Depth, Items}
use Rattle.affc_grammar.specs.Reads.{symbols, is_prelude, has_prelude}
use Rattle.affc_parse.specs.Shown.{shown, shown_bytes}

abbrev of_kind : Kind → List ℕ → Symbol
of_kind k bytes = record { kind = k; bytes = bytes }

run_same : (n : ℕ) (k : Kind) (bytes : List ℕ) → count_run n (of_kind k (shown_bytes k bytes)) ≡ count_run n (of_kind k bytes)
run_same n Word bytes = refl
run_same n Number bytes = refl
run_same n Value bytes = refl
run_same n Header bytes = refl
run_same n Hash bytes = refl
run_same n LineEnd bytes = refl
run_same n Prelude bytes = refl
run_same n Mark bytes = refl

open_same : (n : ℕ) (k : Kind) (bytes : List ℕ) → count_open n (of_kind k (shown_bytes k bytes)) ≡ count_open n (of_kind k bytes)
open_same n Word bytes = refl
open_same n Number bytes = refl
open_same n Value bytes = refl
open_same n Header bytes = refl
open_same n Hash bytes = refl
open_same n LineEnd bytes = refl
open_same n Prelude bytes = refl
open_same n Mark bytes = refl

item_same : (n : ℕ) (k : Kind) (bytes : List ℕ) → count_item n (of_kind k (shown_bytes k bytes)) ≡ count_item n (of_kind k bytes)
item_same n Word bytes = refl
item_same n Number bytes = refl
item_same n Value bytes = refl
item_same n Header bytes = refl
item_same n Hash bytes = refl
item_same n LineEnd bytes = refl
item_same n Prelude bytes = refl
item_same n Mark bytes = refl

past_same : (next : ℕ → Symbol → ℕ) (limit at count : ℕ) → ((n : ℕ) (t : Lexeme) → next n (shown t) ≡ next n (symbol t)) → (ts : List Lexeme) → tokens_past next limit at count (map shown ts) ≡ tokens_past next limit at count (symbols ts)
past_same next limit at count h [] = refl
past_same next limit at count h (t ∷ ts) =
    ap (λ n. at_if (nat_lt limit n) at ++ tokens_past next limit (at + 1) n (map shown ts)) (h count t)
    ∙ ap (λ l. at_if (nat_lt limit (next count (symbol t))) at ++ l) (past_same next limit (at + 1) (next count (symbol t)) h ts)

pub shape_same : (limits : Limits) (ts : List Lexeme) → shape_passed limits (map shown ts) ≡ shape_passed limits (symbols ts)
shape_same limits ts = λ i.
    passed_at Tokens (past_same count_token limits.tokens 0 0 (λ n t. refl) ts i)
    ++ passed_at Run (past_same count_run limits.run 0 0 (λ n t. run_same n t.kind t.bytes) ts i)
    ++ passed_at Depth (past_same count_open limits.depth 0 0 (λ n t. open_same n t.kind t.bytes) ts i)
    ++ passed_at Items (past_same count_item limits.items 0 0 (λ n t. item_same n t.kind t.bytes) ts i)

pub prelude_same : (ts : List Lexeme) → has_prelude (map shown ts) ≡ has_prelude (symbols ts)
prelude_same [] = refl
prelude_same (t ∷ ts) = ap (λ b. is_prelude t.kind || b) (prelude_same ts)
