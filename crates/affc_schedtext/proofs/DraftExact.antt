-- The drafts that are read are those of the grammar's texts, read by the grammar.
use Rattle.std.proofs.Common.{◌≡◌, ℕ, ◌+◌, ◌-◌, ◌≤◌, true, false, List, [], ◌∷◌, ◌++◌, length, Option, Some, None, Ok, Err, refl, sym, ap, ◌∙◌, subst, codes, IsTrue, arith, length-append, append_assoc}
use Rattle.affc_grammar.specs.Grammar.{Symbol, Name, mark, IxText, ix_symbols}
use Rattle.affc_grammar.specs.Draft.{IxDraft, ix_draft}
use Rattle.affc_grammar.specs.Reader.{At, Deep, Read, Reader, then_read, give, after, on}
use Rattle.affc_grammar.specs.Reading.{this_mark, this_word, any_word, read_ix, holding}
use Rattle.affc_grammar.proofs.Rules.{ix_rule}
use Rattle.affc_grammar.proofs.Tests.{holding_is}
use Rattle.affc_syntax.specs.Ahead.{past}
use Rattle.affc_syntax.specs.Readers.{on_past, mapped}
use Rattle.affc_syntax.proofs.Draws.{Draws, Placed, then_is, past_one, closed_is, all_is}
use Rattle.affc_schedtext.proofs.Turns.{on_is}
use Rattle.affc_schedtext.specs.Outline.{Scope, Words, these, any}
use Rattle.affc_schedtext.specs.Grammar as g
use Rattle.affc_schedtext.specs.Grammar.{all_seen, FormText, form_symbols, FormsText, one_form, and_form, forms_symbols, GivenText, last_entry, entry_then, given_symbols, entry_symbols, FreeText, one_entry, and_entry, free_symbols, EntriesText, entries_symbols, InverseText, without, written, skipped, taken, inverse_symbols, LineText, head_symbols, open_symbols, StmtsText, no_stmts, and_stmt, stmts_symbols, OrderText, order_symbols, Text, order, and_fold, text_symbols}
use Rattle.affc_schedtext.specs.Draft.{forms_draft, given_draft, free_draft, entries_draft}
use Rattle.affc_schedtext.specs.Reading as r
use Rattle.affc_schedtext.specs.Reading.{seen_front, unseen_rest, followed_by, with_seen, Front, source_word, time_number, stmt_forms, stmt_line, fold_forms, fold_line, part_symbols}
use Rattle.affc_schedtext.specs.Drafting as d
use Rattle.affc_schedtext.proofs.FormRules.{front_seen, seen_before, opened, form_rule}
use Rattle.affc_schedtext.proofs.TextRules.{form_more_rule, entry_more_rule}

behind_past : {K A B : Type 0} (o : Option (K × List Symbol)) (f : K → Reader Symbol A) (us : List Symbol) (h : A → Reader Symbol B) → then_read (on_past o f (Err (At us))) h ≡ on_past o (λ k vs. then_read (f k vs) h) (Err (At us))
behind_past None f us h = refl
behind_past (Some p) f us h = refl

-- ---- Forms

followed_mapped : {A D : Type 0} (others : List Symbol) (f : A → D) (x : Read Symbol A) → followed_by others (mapped f x) ≡ mapped f (followed_by others x)
followed_mapped others f (Ok x) = refl
followed_mapped others f (Err (At ts)) = refl
followed_mapped others f (Err Deep) = refl

module _ (room : ℕ) (scope : Scope) where
  seen_is : (at : ℕ) (x : Read Symbol (IxText false)) → ((a : IxText false) (us : List Symbol) → x ≡ Ok (a, us) → IsTrue (all_seen scope (ix_symbols a)))
      → mapped (ix_draft at) x ≡ mapped (λ (c : FormText scope). ix_draft at c.written) (then_read x (λ a. with_seen scope a (holding (all_seen scope (ix_symbols a)))))
  unfolding give
  seen_is at (Ok x) h = ap (λ o. mapped (λ (c : FormText scope). ix_draft at c.written) (with_seen scope x.0 o x.1)) (sym (holding_is (all_seen scope (ix_symbols x.0)) (h x.0 x.1 refl)))
  seen_is at (Err (At ts)) h = refl
  seen_is at (Err Deep) h = refl

  form_is : (end : ℕ) → Draws end (λ at (c : FormText scope). ix_draft at c.written) (d.form end room scope) (r.read_form room scope)
  unfolding after
  form_is end ts le =
      let front = seen_front scope ts in
      ap (followed_by (unseen_rest scope ts)) (seen_is (end - length ts) (read_ix false room front) (λ a us e. seen_before scope (ix_symbols a) us (subst (λ l. all_seen scope l ≡ true) ((ix_rule false room).sound front a us e) (front_seen scope ts))))
      ∙ followed_mapped (unseen_rest scope ts) (λ (c : FormText scope). ix_draft (end - length ts) c.written) (then_read (read_ix false room front) (λ a. with_seen scope a (holding (all_seen scope (ix_symbols a)))))
      ∙ ap (mapped (λ (c : FormText scope). ix_draft (end - length ts) c.written)) (sym (opened room scope ts))

  more_each : (end : ℕ) (es : List IxDraft) (at : ℕ) (ts : List Symbol) → length ts ≤ end → end - length ts ≡ at → d.form_more end room scope tt es ts ≡ mapped (λ (a : FormText scope). es ++ ix_draft at a.written ∷ []) (r.read_form room scope ts)
  more_each end es at ts le e =
      ap (λ x. then_read x (λ a vs. Ok (es ++ a ∷ [], vs))) (form_is end ts le) ∙ each (r.read_form room scope ts) ∙ (λ i. mapped (λ (a : FormText scope). es ++ ix_draft (e i) a.written ∷ []) (r.read_form room scope ts))
    where
      each : (x : Read Symbol (FormText scope)) → then_read (mapped (λ (c : FormText scope). ix_draft (end - length ts) c.written) x) (λ a vs. Ok (es ++ a ∷ [], vs)) ≡ mapped (λ (a : FormText scope). es ++ ix_draft (end - length ts) a.written ∷ []) x
      each (Ok x) = refl
      each (Err (At ts)) = refl
      each (Err Deep) = refl

  -- a form behind others
  pushed : {C : Type 0} (end : ℕ) (es : List IxDraft) (ts : List Symbol) (at : ℕ) (made : FormText scope → C) (draft : C → List IxDraft) → length ts ≤ end → end - length ts ≡ at → ((a : FormText scope) → draft (made a) ≡ es ++ ix_draft at a.written ∷ [])
      → d.form_more end room scope tt es ts ≡ mapped draft (after (r.read_form room scope) (λ a. give (made a)) ts)
  unfolding after give
  pushed end es ts at made draft le place h =
      then_is (d.form end room scope ts) (r.read_form room scope ts) (λ (c : FormText scope). ix_draft (end - length ts) c.written) _ _ draft (form_is end ts le)
      (λ a us e. (λ i. Ok (es ++ ix_draft (place i) a.written ∷ [], us)) ∙ ap (λ l. Ok (l, us)) (sym (h a)))

  module _ (end p : ℕ) where
    form_more_is : (k : Unit {0}) (left : FormsText scope) (ts us : List Symbol) → past (this_mark (codes ",")) ts ≡ Some (k, us) → Placed end p (length (forms_symbols left)) ts → d.form_more end room scope k (forms_draft p left) us ≡ mapped (forms_draft p) (r.form_more room scope k left us)
    form_more_is k left ts us c here =
        let one = past_one (this_mark (codes ",")) ts k us c in
        let le = here.within in
        let e = here.place in
        pushed end (forms_draft p left) us (p + length (forms_symbols left) + 1) (and_form left) (forms_draft p) (omega arith) (omega arith) (λ a. refl)

    form_more_keeps : (k : Unit {0}) (left : FormsText scope) (ts us : List Symbol) → past (this_mark (codes ",")) ts ≡ Some (k, us) → Placed end p (length (forms_symbols left)) ts → (b : FormsText scope) (vs : List Symbol) → r.form_more room scope k left us ≡ Ok (b, vs) → Placed end p (length (forms_symbols b)) vs
    form_more_keeps k left ts us c here b vs q =
        let one = past_one (this_mark (codes ",")) ts k us c in
        let le = here.within in
        let e = here.place in
        let count = ap length ((form_more_rule room scope k left).sound us b vs q) in
        let front = length-append (forms_symbols left) (mark (codes ",") ∷ us) in
        let back = length-append (forms_symbols b) vs in
        record { within = omega arith; place = omega arith }

    free_more_is : (k : Unit {0}) (left : FreeText scope) (ts us : List Symbol) → past (this_mark (codes ",")) ts ≡ Some (k, us) → Placed end p (length (free_symbols left)) ts → d.free_more end room scope k (free_draft p left) us ≡ mapped (free_draft p) (r.entry_more room scope k left us)
    free_more_is k left ts us c here =
        let one = past_one (this_mark (codes ",")) ts k us c in
        let le = here.within in
        let e = here.place in
        on_is any_word _ _ (free_draft p) us (λ w vs c.
        let two = past_one any_word us w vs c in
        on_is (this_mark (codes "=")) _ _ (free_draft p) vs (λ k ws c.
        let three = past_one (this_mark (codes "=")) vs k ws c in
        pushed end (free_draft p left) ws (p + length (free_symbols left) + 3) (and_entry left w) (free_draft p) (omega arith) (omega arith) (λ a. refl)))

    free_more_keeps : (k : Unit {0}) (left : FreeText scope) (ts us : List Symbol) → past (this_mark (codes ",")) ts ≡ Some (k, us) → Placed end p (length (free_symbols left)) ts → (b : FreeText scope) (vs : List Symbol) → r.entry_more room scope k left us ≡ Ok (b, vs) → Placed end p (length (free_symbols b)) vs
    free_more_keeps k left ts us c here b vs q =
        let one = past_one (this_mark (codes ",")) ts k us c in
        let le = here.within in
        let e = here.place in
        let count = ap length ((entry_more_rule room scope k left).sound us b vs q) in
        let front = length-append (free_symbols left) (mark (codes ",") ∷ us) in
        let back = length-append (free_symbols b) vs in
        record { within = omega arith; place = omega arith }

  pub forms_is : (end : ℕ) → Draws end forms_draft (d.forms end room scope) (r.read_forms room scope)
  unfolding after
  forms_is end ts le =
      let p = end - length ts in
      then_is (d.form_more end room scope tt [] ts) (r.read_form room scope ts) (λ (a : FormText scope). ix_draft p a.written ∷ []) _ _ (forms_draft p) (more_each end [] p ts le refl) (λ a us q.
      let count = ap length ((form_rule room scope).sound ts a us q) in
      let back = length-append (form_symbols a) us in
      all_is (this_mark (codes ",")) (r.form_more room scope) (d.form_more end room scope) (forms_draft p) (λ left us. Placed end p (length (forms_symbols left)) us) (form_more_is end p) (form_more_keeps end p) (one_form a) us (record { within = omega arith; place = omega arith }))

  -- behind a Word and its "="; the place is that of the Word
  pub free_is : (end p : ℕ) (w : Name) (ts : List Symbol) → Placed end p 2 ts → d.free end room scope ts ≡ mapped (free_draft p) (r.read_free room scope w ts)
  unfolding after
  free_is end p w ts here =
      let le = here.within in
      let e = here.place in
      then_is (d.form_more end room scope tt [] ts) (r.read_form room scope ts) (λ (a : FormText scope). ix_draft (p + 2) a.written ∷ []) _ _ (free_draft p) (more_each end [] (p + 2) ts le e) (λ a us q.
      let count = ap length ((form_rule room scope).sound ts a us q) in
      let back = length-append (form_symbols a) us in
      all_is (this_mark (codes ",")) (r.entry_more room scope) (d.free_more end room scope) (free_draft p) (λ left us. Placed end p (length (free_symbols left)) us) (free_more_is end p) (free_more_keeps end p) (one_entry w a) us (record { within = omega arith; place = omega arith }))

  module _ (end p : ℕ) (w v : Name) (ws : List Name) (es : List IxDraft) where
    each_entry : (a : FormText scope) (x : Read Symbol (GivenText scope (v ∷ ws))) → mapped (λ (c : GivenText scope (v ∷ ws)). (es ++ ix_draft (p + 2) a.written ∷ []) ++ given_draft (p + length (entry_symbols w a) + 1) c) x
        ≡ mapped (λ (c : GivenText scope (w ∷ (v ∷ ws))). es ++ given_draft p c) (then_read x (λ c us. Ok (entry_then w a c, us)))
    each_entry a (Ok x) = ap (λ l. Ok (l, x.1)) (append_assoc es (ix_draft (p + 2) a.written ∷ []) (given_draft (p + length (entry_symbols w a) + 1) x.0))
    each_entry a (Err (At ts)) = refl
    each_entry a (Err Deep) = refl

    rest_is : ((es : List IxDraft) (p : ℕ) (ts : List Symbol) → Placed end p 0 ts → d.given end room scope v ws es ts ≡ mapped (λ (c : GivenText scope (v ∷ ws)). es ++ given_draft p c) (r.read_given room scope v ws ts))
        → (a : FormText scope) (xs : List Symbol) → Placed end p (length (entry_symbols w a)) xs
        → on_past (past (this_mark (codes ",")) xs) (λ _ ys. d.given end room scope v ws (es ++ ix_draft (p + 2) a.written ∷ []) ys) (Err (At xs))
        ≡ mapped (λ (c : GivenText scope (w ∷ (v ∷ ws))). es ++ given_draft p c) (on (this_mark (codes ",")) (λ _. after (r.read_given room scope v ws) (λ c. give (entry_then w a c))) xs)
    unfolding after give
    rest_is others a xs there =
        let le = there.within in
        let e = there.place in
        on_is (this_mark (codes ",")) _ _ _ xs (λ k ys c.
        let one = past_one (this_mark (codes ",")) xs k ys c in
        others (es ++ ix_draft (p + 2) a.written ∷ []) (p + length (entry_symbols w a) + 1) ys (record { within = omega arith; place = omega arith })
        ∙ each_entry a (r.read_given room scope v ws ys))

  given_is : (end : ℕ) (w : Name) (ws : List Name) (es : List IxDraft) (p : ℕ) (ts : List Symbol) → Placed end p 0 ts → d.given end room scope w ws es ts ≡ mapped (λ (c : GivenText scope (w ∷ ws)). es ++ given_draft p c) (r.read_given room scope w ws ts)
  unfolding after
  given_is end w [] es p ts here =
      let le = here.within in
      let e = here.place in
      on_is (this_word w) _ _ _ ts (λ k us c.
      let one = past_one (this_word w) ts k us c in
      on_is (this_mark (codes "=")) _ _ _ us (λ k vs c.
      let two = past_one (this_mark (codes "=")) us k vs c in
      pushed end es vs (p + 2) (last_entry w) (λ (c : GivenText scope (w ∷ [])). es ++ given_draft p c) (omega arith) (omega arith) (λ a. refl)))
  given_is end w (v ∷ ws) es p ts here =
      let le = here.within in
      let e = here.place in
      on_is (this_word w) _ _ (λ (c : GivenText scope (w ∷ (v ∷ ws))). es ++ given_draft p c) ts (λ k us c.
      let one = past_one (this_word w) ts k us c in
      behind_past (past (this_mark (codes "=")) us) (λ _ vs. d.form_more end room scope tt es vs) us (λ fs xs. on_past (past (this_mark (codes ",")) xs) (λ _ ys. d.given end room scope v ws fs ys) (Err (At xs)))
      ∙ on_is (this_mark (codes "=")) _ _ (λ (c : GivenText scope (w ∷ (v ∷ ws))). es ++ given_draft p c) us (λ k vs c.
      let two = past_one (this_mark (codes "=")) us k vs c in
      then_is (d.form_more end room scope tt es vs) (r.read_form room scope vs) (λ (a : FormText scope). es ++ ix_draft (p + 2) a.written ∷ []) _ (λ fs xs. on_past (past (this_mark (codes ",")) xs) (λ _ ys. d.given end room scope v ws fs ys) (Err (At xs))) (λ (c : GivenText scope (w ∷ (v ∷ ws))). es ++ given_draft p c) (more_each end es (p + 2) vs (omega arith) (omega arith)) (λ a xs q.
      let count = ap length ((form_rule room scope).sound vs a xs q) in
      let back = length-append (form_symbols a) xs in
      rest_is end p w v ws es (given_is end v ws) a xs (record { within = omega arith; place = omega arith }))))

  pub entries_is : (end : ℕ) (words : Words) (p : ℕ) (ts : List Symbol) → Placed end p 0 ts → d.entries end room scope words ts ≡ mapped (entries_draft {words = words} p) (r.read_entries room scope words ts)
  unfolding after give
  entries_is end (these w ws) p ts here = given_is end w ws [] p ts here ∙ each (r.read_given room scope w ws ts)
    where
      each : (x : Read Symbol (GivenText scope (w ∷ ws))) → mapped (λ (c : GivenText scope (w ∷ ws)). given_draft p c) x ≡ mapped (entries_draft {words = these w ws} p) (then_read x (λ c us. Ok (g.given c, us)))
      each (Ok x) = refl
      each (Err (At ts)) = refl
      each (Err Deep) = refl
  entries_is end any p ts here =
      let le = here.within in
      let e = here.place in
      on_is any_word _ _ _ ts (λ w us c.
      let one = past_one any_word ts w us c in
      on_is (this_mark (codes "=")) _ _ _ us (λ k vs c.
      let two = past_one (this_mark (codes "=")) us k vs c in
      free_is end p w vs (record { within = omega arith; place = omega arith }) ∙ each (r.read_free room scope w vs)))
    where
      each : (x : Read Symbol (FreeText scope)) → mapped (free_draft p) x ≡ mapped (entries_draft {words = any} p) (then_read x (λ c us. Ok (g.free c, us)))
      each (Ok x) = refl
      each (Err (At ts)) = refl
      each (Err Deep) = refl

  -- behind ":"
  pub list_is : (end p : ℕ) (ts : List Symbol) → Placed end p 0 ts → d.list end room scope ts ≡ mapped (forms_draft (p + 1)) (r.read_list room scope ts)
  unfolding after
  list_is end p ts here =
      let le = here.within in
      let e = here.place in
      on_is (this_mark (codes "(")) _ _ _ ts (λ k us c.
      let one = past_one (this_mark (codes "(")) ts k us c in
      let place : end - length us ≡ p + 1 = omega arith in
      then_is (d.forms end room scope us) (r.read_forms room scope us) (forms_draft (end - length us)) _ _ (forms_draft (p + 1)) (forms_is end us (omega arith)) (λ fs vs q.
      closed_is (codes ")") fs (forms_draft (end - length us) fs) (forms_draft (p + 1)) vs (λ i. forms_draft (place i) fs)))
