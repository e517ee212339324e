-- The readers of the function and of the lines before it leave no more tokens than they were given, and their loops, as the code runs them.
use Rattle.std.proofs.Common.{◌≡◌, ℕ, zero, suc, ◌+◌, ◌-◌, Bool, true, false, ◌||◌, codes, ◌<◌, List, [], ◌∷◌, ◌++◌, length, take, drop, Err, if◌then◌else◌, neg_ℤ, pos, refl, sym, ap, ◌∙◌, arith}
use Rattle.affc_ast.specs.declared.tree.Role.{Role}
use Rattle.affc_ast.specs.declared.tree.Role.TheVariants.{Input, Output, Temp}
use Rattle.affc_grammar.specs.Grammar.{Symbol, Name, has_call}
use Rattle.affc_grammar.specs.Draft.{WordDraft, word_draft, comparisons_in, DeclDraft, ParamDraft, number_param, array_param, range, context}
use Rattle.affc_grammar.specs.Reader.{At}
use Rattle.affc_grammar.specs.Reading.{this_mark, this_word, any_word, First}
use Rattle.affc_syntax.specs.Ahead.{past, number_value}
use Rattle.affc_syntax.specs.IxReading as ix
use Rattle.affc_syntax.specs.CondReading.{whole, comparisons}
use Rattle.affc_syntax.specs.draft.Drafts.{stmts_after}
use Rattle.affc_syntax.specs.Readers.{on_past}
use Rattle.affc_syntax.proofs.Readers.{Left, Shrinks, left_give, left_fail, left_then, on_test, all_left, closed_left}
use Rattle.affc_syntax.proofs.IxReads.{inside_left, dims_left}
use Rattle.affc_syntax.proofs.CondReads.{whole_left}
use Rattle.affc_text.specs.Calls.{begins_call}
use Rattle.affc_text.specs.Parts.{Inside, Lines}
use Rattle.affc_text.specs.StmtReading.{named, ends_line, statement, stmts_inside, block_inside}
use Rattle.affc_text.specs.TextReading.{extents, array, param, param_more, params, params_inside, temp, temp_more, more_temps, decl_behind, inside_stmt, may_be_decl, inside_more, int, line_closed, range_behind, taken, context_behind, line_more}
use Rattle.affc_text.proofs.StmtReads.{named_left, statement_left, stmts_inside_left, block_inside_left}

module _ (prelude : Bool) (end room : ℕ) where
  extents_left : Shrinks (extents prelude end room)
  extents_left ts =
      on_test (this_mark (codes "[")) _ (Err (At ts)) ts (λ _ us.
      left_then (ix.inside prelude end room us) _ (length us) (inside_left prelude end room us) (λ a vs.
      on_test (this_mark (codes "]")) _ (Err (At vs)) vs (λ _ ws.
      left_then (ix.dims prelude end room ws) _ (length ws) (dims_left prelude end room ws) (λ ds xs. left_give (a ∷ ds) xs (length xs) (omega arith)))
      (left_fail (At vs) (length vs))))
      (left_fail (At ts) (length ts))

  array_left : (role : Role) → Shrinks (array prelude end room role)
  array_left role ts =
      left_then (named end ts) _ (length ts) (named_left end ts) (λ w us.
      left_then (extents prelude end room us) _ (length us) (extents_left us) (λ es vs. left_give (array_param (record { word = w; role = role; extents = es })) vs (length vs) (omega arith)))

  param_left : Shrinks (param prelude end room)
  param_left ts =
      on_test (this_word (codes "int64_t")) _ _ ts (λ _ us. left_then (named end us) _ (length us) (named_left end us) (λ w vs. left_give (number_param w) vs (length vs) (omega arith)))
      (on_test (this_word (codes "const")) _ _ ts (λ _ us. on_test (this_word (codes "uint64_t")) _ (Err (At us)) us (λ _ vs. array_left Input vs) (left_fail (At us) (length us)))
      (on_test (this_word (codes "uint64_t")) _ (Err (At ts)) ts (λ _ us. array_left Output us) (left_fail (At ts) (length ts))))

  pub param_more_left : (u : Unit {0}) (ps : List ParamDraft) → Shrinks (param_more prelude end room u ps)
  param_more_left u ps ts = left_then (param prelude end room ts) _ (length ts) (param_left ts) (λ a vs. left_give (ps ++ a ∷ []) vs (length vs) (omega arith))

  temp_left : (ds : List DeclDraft) (w : WordDraft) → Shrinks (temp prelude end room ds w)
  temp_left ds w ts = left_then (ix.dims prelude end room ts) _ (length ts) (dims_left prelude end room ts) (λ es vs. left_give (ds ++ record { word = w; role = Temp; extents = es } ∷ []) vs (length vs) (omega arith))

  pub temp_more_left : (u : Unit {0}) (ds : List DeclDraft) → Shrinks (temp_more prelude end room u ds)
  temp_more_left u ds ts = left_then (named end ts) _ (length ts) (named_left end ts) (temp_left ds)

  decl_left : (i : Inside) (w : Name) → Shrinks (decl_behind prelude end room i w)
  decl_left i w us =
      left_then (temp prelude end room i.temps (word_draft (end - length us - 1) w) us) _ (length us) (temp_left i.temps (word_draft (end - length us - 1) w) us) (λ ds vs.
      left_then (more_temps prelude end room ds vs) _ (length vs) (all_left (this_mark (codes ",")) (temp_more prelude end room) temp_more_left ds vs) (λ es. closed_left (codes ";") (record { temps = es; stmts = i.stmts })))

  inside_stmt_left : (first : First) (i : Inside) → Shrinks (inside_stmt prelude end room first i)
  inside_stmt_left first i us =
      left_then (statement prelude end room (stmts_inside prelude end room) (block_inside prelude end room) first us) _ (length us)
      (statement_left prelude end room (stmts_inside prelude end room) (block_inside prelude end room) (stmts_inside_left prelude end room) (block_inside_left prelude end room) first us)
      (λ read vs. left_give (record { temps = i.temps; stmts = stmts_after i.stmts read }) vs (length vs) (omega arith))

  pub inside_more_left : (first : First) (i : Inside) → Shrinks (inside_more prelude end room first i)
  inside_more_left first i us = of_test (may_be_decl first i.stmts)
    where
      of_test : (t : Bool) → Left (if t then on_past (past any_word us) (λ w vs. decl_behind prelude end room i w vs) (inside_stmt prelude end room first i us) else inside_stmt prelude end room first i us) (length us)
      of_test true = on_test any_word _ _ us (λ w vs. decl_left i w vs) (inside_stmt_left first i us)
      of_test false = inside_stmt_left first i us

int_left : Shrinks int
int_left ts =
    on_test (this_mark (codes "-")) _ _ ts (λ _ us. on_test number_value _ (Err (At us)) us (λ n vs. left_give (neg_ℤ (pos n)) vs (length vs) (omega arith)) (left_fail (At us) (length us)))
    (on_test number_value _ (Err (At ts)) ts (λ n us. left_give (pos n) us (length us) (omega arith)) (left_fail (At ts) (length ts)))

line_closed_left : (a : Lines) → Shrinks (line_closed a)
line_closed_left a ts = on_test ends_line _ (Err (At ts)) ts (λ _ us. left_give a us (length us) (omega arith)) (left_fail (At ts) (length ts))

range_left : (end : ℕ) (ls : Lines) → Shrinks (range_behind end ls)
range_left end ls ts =
    left_then (named end ts) _ (length ts) (named_left end ts) (λ w us.
    left_then (int us) _ (length us) (int_left us) (λ low vs.
    left_then (int vs) _ (length vs) (int_left vs) (λ high. line_closed_left (record { pragmas = ls.pragmas ++ range w (end - length us) low high ∷ []; calls = ls.calls }))))

comparisons_left : (end room : ℕ) → Shrinks (comparisons true end room)
comparisons_left end room ts = left_then (whole true false end room ts) _ (length ts) (whole_left true false end room ts) (λ c us. left_give (comparisons_in c) us (length us) (omega arith))

context_left : (end room : ℕ) (ls : Lines) → Shrinks (context_behind end room ls)
context_left end room ls ts =
    left_then (comparisons true end room ts) _ (length ts) (comparisons_left end room ts) (λ cs us. line_closed_left (record { pragmas = ls.pragmas ++ context (end - length ts - 1) cs ∷ []; calls = ls.calls || has_call (taken ts us) }) us)

pub line_more_left : (end room : ℕ) (u : Unit {0}) (ls : Lines) → Shrinks (line_more end room u ls)
line_more_left end room u ls ts =
    on_test (this_word (codes "pragma")) _ (Err (At ts)) ts (λ _ us.
    on_test (this_word (codes "affc")) _ (Err (At us)) us (λ _ vs.
    on_test (this_word (codes "param")) _ _ vs (λ _ ws. range_left end ls ws)
    (on_test (this_word (codes "context")) _ (Err (At vs)) vs (λ _ ws. context_left end room ls ws) (left_fail (At vs) (length vs))))
    (left_fail (At us) (length us)))
    (left_fail (At ts) (length ts))

-- ---- Calls

pub no_call_left : (n : ℕ) (ts : List Symbol) → n < 2 → has_call (take n ts) ≡ false
no_call_left zero ts p = refl
no_call_left (suc zero) [] p = refl
no_call_left (suc zero) (x ∷ ts) p = refl
no_call_left (suc (suc n)) ts p = absurd (omega arith)

pub call_step : (n : ℕ) (ts : List Symbol) → has_call (take (suc (suc n)) ts) ≡ begins_call ts || has_call (take (suc n) (drop 1 ts))
call_step n [] = refl
call_step n (x ∷ []) = refl
call_step n (x ∷ y ∷ ts) = refl

pub params_inside_on : (prelude : Bool) (end room : ℕ) (ts : List Symbol) → (room ≡ 0 → ⊥) → params prelude end (room - 1) ts ≡ params_inside prelude end room ts
unfolding params_inside
params_inside_on prelude end zero ts n = absurd (n refl)
params_inside_on prelude end (suc room) ts n = let e : suc room - 1 ≡ room = omega arith in ap (λ m. params prelude end m ts) e

drop_next : (n : ℕ) (ts : List Symbol) → drop 1 (drop n ts) ≡ drop (n + 1) ts
drop_next zero ts = refl
drop_next (suc n) [] = let e : suc n + 1 ≡ suc (n + 1) = omega arith in ap (λ m. drop {A = Symbol} m []) (sym e)
drop_next (suc n) (x ∷ ts) = let e : suc n + 1 ≡ suc (n + 1) = omega arith in drop_next n ts ∙ ap (λ m. drop m (x ∷ ts)) (sym e)

pub call_on : (left at : ℕ) (ss : List Symbol) → 1 < left → has_call (take left (drop at ss)) ≡ begins_call (drop at ss) || has_call (take (left - 1) (drop (at + 1) ss))
call_on zero at ss p = absurd (omega arith)
call_on (suc zero) at ss p = absurd (omega arith)
call_on (suc (suc n)) at ss p =
    let e : suc n ≡ suc (suc n) - 1 = omega arith in
    call_step n (drop at ss) ∙ (λ i. begins_call (drop at ss) || has_call (take (e i) (drop_next at ss i)))

pub call_here : (left at : ℕ) (ss : List Symbol) → 1 < left → true ≡ begins_call (drop at ss) → has_call (take left (drop at ss)) ≡ true
call_here left at ss p b = call_on left at ss p ∙ ap (λ x. x || has_call (take (left - 1) (drop (at + 1) ss))) (sym b)

pub call_later : (left at : ℕ) (ss : List Symbol) → 1 < left → false ≡ begins_call (drop at ss) → has_call (take (left - 1) (drop (at + 1) ss)) ≡ has_call (take left (drop at ss))
call_later left at ss p b = sym (call_on left at ss p ∙ ap (λ x. x || has_call (take (left - 1) (drop (at + 1) ss))) (sym b))
