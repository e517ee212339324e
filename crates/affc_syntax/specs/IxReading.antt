-- Reading drafts of whole-number expressions and dimensions. `end` is the number behind the last token, so that the first of some tokens at the
-- text's end has the number `end - length tokens`.
use Rattle.std.specs.Prelude.{[], ◌∷◌, ◌++◌, ℕ, zero, suc, ◌-◌, Bool, true, false, List, length, codes, Option, Some, None, Ok, Err}
use Rattle.affc_grammar.specs.Grammar as g
use Rattle.affc_grammar.specs.Grammar.{Symbol, Name, is_divisor}
use Rattle.affc_grammar.specs.Draft.{IxDraft, literal, name, negated, sum, difference, product, grouped, chosen, divided}
use Rattle.affc_grammar.specs.Reader.{At, Deep, Reader, then_read}
use Rattle.affc_grammar.specs.Reading.{this_mark, any_word, Callee, of_choice, of_rounding, sum_sign}
use Rattle.affc_syntax.specs.Callees.{callee}
use Rattle.affc_syntax.specs.Ahead.{past, number_value, divisor_value}
use Rattle.affc_syntax.specs.Readers.{on_past, closed, all_more}

abbrev pub divisor : Reader Symbol ℕ
divisor ts = on_past (past divisor_value ts) (λ by us. Ok (by, us)) (Err (At ts))

-- ---- Expressions; `inner` reads one behind an opened bracket

abbrev pub group : ℕ → Reader Symbol IxDraft → Reader Symbol IxDraft
group at inner us = then_read (inner us) (λ a vs. closed (codes ")") (grouped at a) vs)

abbrev pub choice_call : ℕ → Reader Symbol IxDraft → g.Choice → Reader Symbol IxDraft
choice_call at inner f us =
    then_read (inner us) (λ a vs.
    on_past (past (this_mark (codes ",")) vs) (λ _ ws.
    then_read (inner ws) (λ b xs. closed (codes ")") (chosen at f a b) xs)) (Err (At vs)))

abbrev pub rounding_call : (end at : ℕ) → Reader Symbol IxDraft → g.Rounding → Reader Symbol IxDraft
rounding_call end at inner f us =
    then_read (inner us) (λ a vs.
    on_past (past (this_mark (codes ",")) vs) (λ _ ws.
    then_read (divisor ws) (λ by xs. closed (codes ")") (divided at f a (end - length ws) by) xs)) (Err (At vs)))

abbrev pub call : (end at : ℕ) → Reader Symbol IxDraft → Callee → Reader Symbol IxDraft
call end at inner (of_choice f) = choice_call at inner f
call end at inner (of_rounding f) = rounding_call end at inner f

abbrev pub called : (end at : ℕ) → Reader Symbol IxDraft → Name → Option Callee → Reader Symbol IxDraft
called end at inner w None us = Ok (name at w, us)
called end at inner w (Some f) us = on_past (past (this_mark (codes "(")) us) (λ _ vs. call end at inner f vs) (Ok (name at w, us))

abbrev pub atom : (prelude : Bool) (end : ℕ) → Reader Symbol IxDraft → Reader Symbol IxDraft
atom prelude end inner ts =
    on_past (past number_value ts) (λ n us. Ok (literal (end - length ts) n, us))
    (on_past (past any_word ts) (λ w us. called end (end - length ts) inner w (callee prelude w) us)
    (on_past (past (this_mark (codes "(")) ts) (λ _ us. group (end - length ts) inner us) (Err (At ts))))

abbrev pub factor : (prelude : Bool) (end : ℕ) → Reader Symbol IxDraft → Reader Symbol IxDraft
factor prelude end inner ts =
    on_past (past (this_mark (codes "-")) ts) (λ _ us. then_read (atom prelude end inner us) (λ a vs. Ok (negated (end - length ts) a, vs)))
    (atom prelude end inner ts)

abbrev pub times : (prelude : Bool) (end : ℕ) → Reader Symbol IxDraft → Unit {0} → IxDraft → Reader Symbol IxDraft
times prelude end inner _ left us = then_read (factor prelude end inner us) (λ b vs. Ok (product (end - length us - 1) left b, vs))

abbrev pub factors : (prelude : Bool) (end : ℕ) → Reader Symbol IxDraft → IxDraft → Reader Symbol IxDraft
factors prelude end inner = all_more (this_mark (codes "*")) (times prelude end inner)

abbrev pub term : (prelude : Bool) (end : ℕ) → Reader Symbol IxDraft → Reader Symbol IxDraft
term prelude end inner ts = then_read (factor prelude end inner ts) (factors prelude end inner)

abbrev pub joined : (is_plus : Bool) → IxDraft → IxDraft → IxDraft
joined true = sum
joined false = difference

abbrev pub added : (prelude : Bool) (end : ℕ) → Reader Symbol IxDraft → Bool → IxDraft → Reader Symbol IxDraft
added prelude end inner is_plus left us = then_read (term prelude end inner us) (λ b vs. Ok (joined is_plus left b, vs))

abbrev pub terms : (prelude : Bool) (end : ℕ) → Reader Symbol IxDraft → IxDraft → Reader Symbol IxDraft
terms prelude end inner = all_more sum_sign (added prelude end inner)

abbrev pub expression : (prelude : Bool) (end : ℕ) → Reader Symbol IxDraft → Reader Symbol IxDraft
expression prelude end inner ts = then_read (term prelude end inner ts) (terms prelude end inner)

-- behind a bracket that was opened where so many could be
unfoldable pub inside : (prelude : Bool) (end : ℕ) → (room : ℕ) → Reader Symbol IxDraft
inside prelude end zero ts = Err Deep
inside prelude end (suc room) ts = expression prelude end (inside prelude end room) ts

-- ---- Dimensions

abbrev pub dim : (prelude : Bool) (end room : ℕ) → Unit {0} → List IxDraft → Reader Symbol (List IxDraft)
dim prelude end room _ ds us = then_read (inside prelude end room us) (λ a vs. closed (codes "]") (ds ++ a ∷ []) vs)

abbrev pub more_dims : (prelude : Bool) (end room : ℕ) → List IxDraft → Reader Symbol (List IxDraft)
more_dims prelude end room = all_more (this_mark (codes "[")) (dim prelude end room)

abbrev pub dims : (prelude : Bool) (end room : ℕ) → Reader Symbol (List IxDraft)
dims prelude end room = more_dims prelude end room []
