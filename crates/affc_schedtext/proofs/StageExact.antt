-- The drafts of whole texts are those of the grammar's texts, read by the grammar.
use Rattle.std.proofs.Common.{◌≡◌, ℕ, ◌+◌, ◌-◌, Bool, true, false, List, [], ◌∷◌, ◌++◌, length, Some, None, Ok, Err, if◌then◌else◌, refl, sym, ap, ◌∙◌, codes, arith, length-append}
use Rattle.std.specs.Option.{option_map}
use Rattle.affc_lex.specs.Bytes.{same, decimal}
use Rattle.affc_grammar.specs.Grammar.{Symbol, Name, Digits, word, mark}
use Rattle.affc_grammar.specs.Draft.{IxDraft, WordDraft, word_draft}
use Rattle.affc_grammar.specs.Reader.{At, Turn, going, done, give, fail, after, on, finished}
use Rattle.affc_grammar.specs.Reading.{this_mark, this_word, any_word, any_number, is_number_kind}
use Rattle.affc_syntax.specs.Ahead.{past, number_value}
use Rattle.affc_syntax.specs.Readers.{on_past, mapped}
use Rattle.affc_syntax.proofs.Draws.{Placed, then_is, either_mapped, either_turned, past_one}
use Rattle.affc_schedtext.proofs.Turns.{on_is, turned, until_drawn}
use Rattle.affc_schedtext.specs.Outline.{Outline, Scope, Words, Presence, never, always, maybe, statement_lists, statement_presence, fold_lists, fold_presence}
use Rattle.affc_schedtext.specs.Grammar as g
use Rattle.affc_schedtext.specs.Grammar.{FormsText, forms_symbols, FreeText, free_symbols, EntriesText, entries_symbols, InverseText, without, written, skipped, taken, inverse_symbols, LineText, head_symbols, open_symbols, line_symbols, StmtsText, no_stmts, and_stmt, stmts_symbols, order_symbols, Text, order, and_fold, text_symbols}
use Rattle.affc_schedtext.specs.Draft.{source, Draft, forms_draft, free_draft, entries_draft, inverse_draft, stmts_draft, text_draft}
use Rattle.affc_schedtext.specs.Reading as r
use Rattle.affc_schedtext.specs.Reading.{Front, source_word, time_number, stmt_forms, stmt_line, fold_forms, fold_line, part_symbols}
use Rattle.affc_schedtext.specs.Drafting as d
use Rattle.affc_schedtext.proofs.DraftExact.{entries_is, free_is, list_is}
use Rattle.affc_schedtext.proofs.TextRules.{part_rule}

-- what a part says
abbrev pub stage_of : {o : Outline} → Front o → d.Stage
stage_of source_word = d.folds (record { order = source; folds = [] })
stage_of (time_number digits) = d.stmts (decimal digits) []
stage_of (stmt_forms digits ss w fs) = d.stmt_forms (decimal digits) (stmts_draft 3 ss) (word_draft (3 + length (stmts_symbols ss)) w) (forms_draft (3 + length (stmts_symbols ss) + 3) fs)
stage_of (stmt_line digits ss l) = d.stmts (decimal digits) (stmts_draft 3 (and_stmt ss l))
stage_of (fold_forms c w fs) = d.fold_forms (text_draft c) (word_draft (length (text_symbols c) + 1) w) (forms_draft (length (text_symbols c) + 1 + 3) fs)
stage_of (fold_line c l) = d.folds (text_draft (and_fold c l))

abbrev pub turn_of : {o : Outline} → Turn (Front o) (Text o) → Turn d.Stage Draft
turn_of = turned stage_of text_draft

pub number_turned : (x : Symbol) → number_value x ≡ option_map decimal (any_number x)
number_turned x = by_kind (is_number_kind x.kind)
  where
    by_kind : (b : Bool) → (if b then Some (decimal x.bytes) else None) ≡ option_map decimal (if b then Some x.bytes else None)
    by_kind true = refl
    by_kind false = refl

module _ (o : Outline) (end room : ℕ) where
  abbrev whole : Text o → Turn (Front o) (Text o)
  whole c = done c

  ended_is : (c : Text o) (ts : List Symbol) → d.ended (text_draft c) ts ≡ mapped turn_of (finished (whole c) ts)
  unfolding finished
  ended_is c [] = refl
  ended_is c (x ∷ ts) = refl

  -- behind "fold"
  fold_is : (c : Text o) (ts : List Symbol) → Placed end 0 (length (text_symbols c) + 1) ts → d.fold o end room (text_draft c) ts ≡ mapped turn_of (r.read_fold o room c ts)
  unfolding after give
  fold_is c ts here =
      let le = here.within in
      let e = here.place in
      let at = length (text_symbols c) + 1 in
      let named : end - length ts ≡ at = omega arith in
      on_is any_word _ _ turn_of ts (λ w us q.
      let one = past_one any_word ts w us q in
      on_is (this_mark (codes ":")) _ _ turn_of us (λ k vs q.
      let two = past_one (this_mark (codes ":")) us k vs q in
      let place : at + 2 + 1 ≡ at + 3 = omega arith in
      then_is (d.list end room (fold_lists o w).there vs) (r.read_list room (fold_lists o w).there vs) (forms_draft (at + 2 + 1)) _ _ turn_of
      (list_is room (fold_lists o w).there end (at + 2) vs (record { within = omega arith; place = omega arith })) (λ fs ws q.
      (λ i. Ok (going (d.fold_forms (text_draft c) (word_draft (named i) w) (forms_draft (place i) fs)), ws)))))

  next_fold_is : (c : Text o) (ts : List Symbol) → Placed end 0 (length (text_symbols c)) ts → d.next_fold o end room (text_draft c) ts ≡ mapped turn_of (r.next_fold o room c ts)
  next_fold_is c ts here =
      let le = here.within in
      let e = here.place in
      either_mapped (this_word (codes "fold")) (λ _. r.read_fold o room c) (finished (done c)) (λ _ us. d.fold o end room (text_draft c) us) (d.ended (text_draft c) ts) turn_of ts
      (λ k us q. let one = past_one (this_word (codes "fold")) ts k us q in fold_is c us (record { within = omega arith; place = omega arith }))
      (ended_is c ts)

  module _ (digits : Digits) where
    abbrev n : ℕ
    n = decimal digits

    abbrev timed : StmtsText o (decimal digits) → Text o
    timed ss = order (g.time digits ss)

    -- the number of the token behind the statements
    abbrev behind : StmtsText o (decimal digits) → ℕ
    behind ss = 3 + length (stmts_symbols ss)

    first_fold_is : (ss : StmtsText o (decimal digits)) (b : Bool) (ts : List Symbol) → Placed end 0 (behind ss + 1) ts
        → (if b then d.fold o end room (d.timed n (stmts_draft 3 ss)) ts else Err (At ts)) ≡ mapped turn_of (r.read_first_fold o room (timed ss) b ts)
    unfolding fail
    first_fold_is ss true ts here = let e = here.place in fold_is (timed ss) ts (record { within = here.within; place = omega arith })
    first_fold_is ss false ts here = refl

    -- behind a Word
    stmt_is : (ss : StmtsText o (decimal digits)) (w : Name) (ts : List Symbol) → Placed end 0 (behind ss + 1) ts
        → d.stmt o end room n (stmts_draft 3 ss) (word_draft (behind ss) w) ts ≡ mapped turn_of (r.read_stmt o room digits ss w ts)
    unfolding after give
    stmt_is ss w ts here =
        let le = here.within in
        let e = here.place in
        let scope = (statement_lists o (decimal digits) w).there in
        let place : behind ss + 2 + 1 ≡ behind ss + 3 = omega arith in
        either_mapped (this_mark (codes ":")) _ (r.read_first_fold o room (timed ss) (same w (codes "fold"))) _ _ turn_of ts (λ k us q.
        let one = past_one (this_mark (codes ":")) ts k us q in
        then_is (d.list end room scope us) (r.read_list room scope us) (forms_draft (behind ss + 2 + 1)) _ _ turn_of (list_is room scope end (behind ss + 2) us (record { within = omega arith; place = omega arith })) (λ fs vs q.
        (λ i. Ok (going (d.stmt_forms n (stmts_draft 3 ss) (word_draft (behind ss) w) (forms_draft (place i) fs)), vs))))
        (first_fold_is ss (same w (codes "fold")) ts here)

    next_stmt_is : (ss : StmtsText o (decimal digits)) (ts : List Symbol) → Placed end 0 (behind ss) ts → d.next_stmt o end room n (stmts_draft 3 ss) ts ≡ mapped turn_of (r.next_stmt o room digits ss ts)
    next_stmt_is ss ts here =
        let le = here.within in
        let e = here.place in
        let named : end - length ts ≡ behind ss = omega arith in
        either_mapped any_word (r.read_stmt o room digits ss) (finished (done (timed ss))) (λ w us. d.stmt o end room n (stmts_draft 3 ss) (word_draft (end - length ts) w) us) (d.ended (text_draft (timed ss)) ts) turn_of ts
        (λ w us q.
        let one = past_one any_word ts w us q in
        (λ i. d.stmt o end room n (stmts_draft 3 ss) (word_draft (named i) w) us) ∙ stmt_is ss w us (record { within = omega arith; place = omega arith }))
        (ended_is (timed ss) ts)

    abbrev Line : Type 0
    Line = LineText (statement_lists o (decimal digits)) (statement_presence o)

    module _ (ss : StmtsText o (decimal digits)) (w : WordDraft) (es : List IxDraft) (at : ℕ) (scope : Scope) (words : Words) where
      -- behind the first list of a line, which ends at the token of this number
      stmt_more_is : (presence : Presence) (line : InverseText scope words presence → Line) → ((i : InverseText scope words presence) → stmts_draft 3 (and_stmt ss (line i)) ≡ stmts_draft 3 ss ++ d.line w es (inverse_draft at i) ∷ [])
          → ((i : InverseText scope words presence) → behind (and_stmt ss (line i)) ≡ at + length (inverse_symbols i) + 1) → (ts : List Symbol) → Placed end 0 (at + 1) ts
          → d.stmt_more o end room n (stmts_draft 3 ss) w es scope words presence ts ≡ mapped turn_of (r.stmt_more o room digits ss scope words presence line ts)
      unfolding after give
      stmt_more_is never line h l ts here =
          let le = here.within in
          let e = here.place in
          let size = l without in
          ap (λ ls. d.next_stmt o end room n ls ts) (sym (h without)) ∙ next_stmt_is (and_stmt ss (line without)) ts (record { within = omega arith; place = omega arith })
      stmt_more_is always line h l ts here =
          let le = here.within in
          let e = here.place in
          then_is (d.entries end room scope words ts) (r.read_entries room scope words ts) (entries_draft (at + 1)) _ _ turn_of (entries_is room scope end words (at + 1) ts (record { within = omega arith; place = omega arith })) (λ c us q.
          ap (λ ls. Ok (going (d.stmts n ls), us)) (sym (h (written c))))
      stmt_more_is maybe line h l ts here =
          let le = here.within in
          let e = here.place in
          let size = l skipped in
          let named : end - length ts ≡ behind (and_stmt ss (line skipped)) = omega arith in
          either_mapped any_word _ (finished (done (timed (and_stmt ss (line skipped))))) _ _ turn_of ts (λ v us q.
          let one = past_one any_word ts v us q in
          either_mapped (this_mark (codes "=")) _ (r.read_stmt o room digits (and_stmt ss (line skipped)) v) _ _ turn_of us (λ k vs q.
          let two = past_one (this_mark (codes "=")) us k vs q in
          then_is (d.free end room scope vs) (r.read_free room scope v vs) (free_draft (at + 1)) _ _ turn_of (free_is room scope end (at + 1) v vs (record { within = omega arith; place = omega arith })) (λ c ws q.
          ap (λ ls. Ok (going (d.stmts n ls), ws)) (sym (h (taken c)))))
          ((λ i. d.stmt o end room n (sym (h skipped) i) (word_draft (named i) v) us) ∙ stmt_is (and_stmt ss (line skipped)) v us (record { within = omega arith; place = omega arith })))
          (ap (λ ls. d.ended (d.timed n ls) ts) (sym (h skipped)) ∙ ended_is (timed (and_stmt ss (line skipped))) ts)

    line_size : (ss : StmtsText o (decimal digits)) (l : Line) → behind (and_stmt ss l) ≡ behind ss + length (head_symbols l.name l.forms) + length (inverse_symbols l.inverse) + 1
    line_size ss l =
        let a = length-append (stmts_symbols ss) (line_symbols l) in
        let b = length-append (open_symbols l) (mark (codes ";") ∷ []) in
        let c = length-append (head_symbols l.name l.forms) (inverse_symbols l.inverse) in
        omega (arith, a, b, c)

  -- ---- Parts

  fold_size : (c : Text o) (l : LineText (fold_lists o) fold_presence) → length (text_symbols (and_fold c l)) ≡ length (text_symbols c) + 1 + length (open_symbols l) + 1
  fold_size c l =
      let a = length-append (text_symbols c) (word (codes "fold") ∷ line_symbols l) in
      let b = length-append (open_symbols l) (mark (codes ";") ∷ []) in
      omega (arith, a, b)

  part_more_is : (k : Unit {0}) (p : Front o) (ts us : List Symbol) → past (this_mark (codes ";")) ts ≡ Some (k, us) → Placed end 0 (length (part_symbols p)) ts → d.stage_more o end room k (stage_of p) us ≡ mapped turn_of (r.part_more o room k p us)
  unfolding after give
  part_more_is k source_word ts us q here =
      let one = past_one (this_mark (codes ";")) ts k us q in
      let le = here.within in
      let e = here.place in
      next_fold_is (order g.source) us (record { within = omega arith; place = omega arith })
  part_more_is k (time_number digits) ts us q here =
      let one = past_one (this_mark (codes ";")) ts k us q in
      let le = here.within in
      let e = here.place in
      next_stmt_is digits no_stmts us (record { within = omega arith; place = omega arith })
  part_more_is k (stmt_forms digits ss w fs) ts us q here =
      let one = past_one (this_mark (codes ";")) ts k us q in
      let le = here.within in
      let e = here.place in
      let lists = statement_lists o (decimal digits) w in
      let size = length-append (order_symbols (g.time digits ss)) (head_symbols w fs) in
      stmt_more_is digits ss (word_draft (behind digits ss) w) (forms_draft (behind digits ss + 3) fs) (behind digits ss + length (head_symbols w fs)) lists.back lists.words (statement_presence o w) (λ i. record { name = w; forms = fs; inverse = i })
      (λ i. refl) (λ i. line_size digits ss (record { name = w; forms = fs; inverse = i })) us (record { within = omega arith; place = omega (arith, size) })
  part_more_is k (stmt_line digits ss l) ts us q here =
      let one = past_one (this_mark (codes ";")) ts k us q in
      let le = here.within in
      let e = here.place in
      let a = length-append (order_symbols (g.time digits ss)) (open_symbols l) in
      let b = length-append (head_symbols l.name l.forms) (inverse_symbols l.inverse) in
      let c = line_size digits ss l in
      next_stmt_is digits (and_stmt ss l) us (record { within = omega arith; place = omega (arith, a, b, c) })
  part_more_is k (fold_forms c w fs) ts us q here =
      let one = past_one (this_mark (codes ";")) ts k us q in
      let le = here.within in
      let e = here.place in
      let a = length-append (text_symbols c) (word (codes "fold") ∷ head_symbols w fs) in
      let at = length (text_symbols c) + 1 + length (head_symbols w fs) + 1 in
      then_is (d.entries end room (fold_lists o w).back (fold_lists o w).words us) (r.read_entries room (fold_lists o w).back (fold_lists o w).words us) (entries_draft at) _ _ turn_of
      (entries_is room (fold_lists o w).back end (fold_lists o w).words at us (record { within = omega arith; place = omega (arith, a) })) (λ t vs q. refl)
  part_more_is k (fold_line c l) ts us q here =
      let one = past_one (this_mark (codes ";")) ts k us q in
      let le = here.within in
      let e = here.place in
      let a = length-append (text_symbols c) (word (codes "fold") ∷ open_symbols l) in
      let b = fold_size c l in
      next_fold_is (and_fold c l) us (record { within = omega arith; place = omega (arith, a, b) })

  part_keeps : (k : Unit {0}) (p : Front o) (ts us : List Symbol) → past (this_mark (codes ";")) ts ≡ Some (k, us) → Placed end 0 (length (part_symbols p)) ts → (b : Front o) (vs : List Symbol) → r.part_more o room k p us ≡ Ok (going b, vs) → Placed end 0 (length (part_symbols b)) vs
  part_keeps k p ts us q here b vs h =
      let one = past_one (this_mark (codes ";")) ts k us q in
      let le = here.within in
      let e = here.place in
      let count = ap length ((part_rule o room k p).sound us (going b) vs h) in
      let front = length-append (part_symbols p) (mark (codes ";") ∷ us) in
      let back = length-append (part_symbols b) vs in
      record { within = omega arith; place = omega arith }

  stages_is : (p : Front o) (ts : List Symbol) → Placed end 0 (length (part_symbols p)) ts → d.stages o end room (stage_of p) ts ≡ mapped text_draft (r.read_parts o room p ts)
  stages_is p ts here = until_drawn (this_mark (codes ";")) (r.part_more o room) (d.stage_more o end room) stage_of text_draft (λ p ts. Placed end 0 (length (part_symbols p)) ts) part_more_is part_keeps p ts here

pub text_is : (o : Outline) (room : ℕ) (ss : List Symbol) → d.text o (length ss) room ss ≡ mapped text_draft (r.read_text o room ss)
unfolding r.read_text fail
text_is o room ss =
    either_mapped (this_word (codes "source")) _ _ _ _ text_draft ss
    (λ k us q. let one = past_one (this_word (codes "source")) ss k us q in stages_is o (length ss) room source_word us (record { within = omega arith; place = omega arith }))
    (on_is (this_word (codes "time")) _ _ text_draft ss (λ k us q.
    let one = past_one (this_word (codes "time")) ss k us q in
    number_is us one))
  where
    number_is : (us : List Symbol) → length ss ≡ length us + 1 → on_past (past number_value us) (λ n vs. d.stages o (length ss) room (d.stmts n []) vs) (Err (At us)) ≡ mapped text_draft (on any_number (λ digits. r.read_parts o room (time_number digits)) us)
    number_is us one = either_turned any_number number_value decimal number_turned (λ digits. r.read_parts o room (time_number digits)) fail (λ n vs. d.stages o (length ss) room (d.stmts n []) vs) (Err (At us)) text_draft us
        (λ digits vs q. let two = past_one any_number us digits vs q in stages_is o (length ss) room (time_number digits) vs (record { within = omega arith; place = omega arith }))
        refl
