-- Reading a text of the grammar: one text at most has given symbols, a text is read where the room is enough, and where reading stops no text goes on.
use Rattle.std.proofs.Common.{◌≡◌, ℕ, ◌+◌, ◌-◌, ◌≤◌, Bool, true, false, not, nat_lt, IsTrue, List, [], ◌∷◌, ◌++◌, length, Option, Some, None, Result, Ok, Err, refl, sym, ap, ◌∙◌, subst, if◌then◌else◌, arith, append-nil}
use Rattle.std.proofs.lemmas.Bool.{ltb-false}
use Rattle.affc_lex.proofs.Exact.{one_list}
use Rattle.affc_ast.specs.declared.tree.Program.{Program}
use Rattle.affc_grammar.specs.Grammar.{Symbol, LineText, PragmasText, Text, text_symbols, context_calls, Refuses, StopsAt}
use Rattle.affc_grammar.specs.Draft.{text_draft}
use Rattle.affc_grammar.specs.Limits.{Limits, count_open, is_opening, is_closing, tokens_past, at_if}
use Rattle.affc_grammar.specs.Reads.{Derives, ReadsBy, TextFault, tree_of, symbols, has_prelude}
use Rattle.affc_grammar.specs.Reader.{At, Deep, Read, Reader, fail, on_some, after, either, finished, Within}
use Rattle.affc_grammar.specs.Reading.{read_text, read_without, holding}
use Rattle.affc_grammar.proofs.Closed.{then_ok, same_ok}
use Rattle.affc_grammar.proofs.Rule.{Keeps}
use Rattle.affc_grammar.proofs.Rules.{text_rule}
use Rattle.affc_grammar.proofs.Done.{IsDone}
use Rattle.affc_grammar.proofs.CompleteText.{text_gets}

-- ---- Room

counted : (b c : Bool) (n : ℕ) → (if b then n + 1 else (if c then n - 1 else n)) ≤ n + 1
counted true c n = omega arith
counted false true n = omega arith
counted false false n = omega arith

within_more : (ts : List Symbol) (limit n m : ℕ) → n ≤ m → m + length ts ≤ limit → Within count_open limit n ts
within_more [] limit n m p q = omega arith
within_more (t ∷ ts) limit n m p q = (omega arith, within_more ts limit (count_open n t) (m + 1) (let c = counted (is_opening t) (is_closing t) n in omega arith) (omega arith))

-- as many brackets as there are tokens
pub within_length : (ts : List Symbol) → Within count_open (length ts) 0 ts
within_length ts = within_more ts (length ts) 0 0 (omega arith) (omega arith)

none_past : (b : Bool) (at : ℕ) (others : List ℕ) → at_if b at ++ others ≡ [] → (b ≡ false) × (others ≡ [])
none_past true at others e = absurd (cc)
none_past false at others e = (refl, e)

within_next : (limit at n : ℕ) (ts : List Symbol) → n ≤ limit → tokens_past count_open limit at n ts ≡ [] → Within count_open limit n ts
within_next limit at n [] p e = p
within_next limit at n (t ∷ ts) p e =
    let k = none_past (nat_lt limit (count_open n t)) at (tokens_past count_open limit (at + 1) (count_open n t) ts) e in
    (p, within_next limit (at + 1) (count_open n t) ts (not_past limit (count_open n t) k.0) k.1)
  where
    not_past : (limit m : ℕ) → nat_lt limit m ≡ false → m ≤ limit
    not_past limit m e = ltb-false limit m e

-- a text that keeps the limit on open brackets has no more of them open
pub within_limit : (limit : ℕ) (ts : List Symbol) → tokens_past count_open limit 0 0 ts ≡ [] → Within count_open limit 0 ts
within_limit limit ts e = within_next limit 0 0 ts (omega arith) e

not_deep : (room : ℕ) (r : Read Symbol Text) → Keeps count_open (0 + room) (0 + 0) r → r ≡ Err Deep → ⊥
not_deep room (Ok x) k e = cc
not_deep room (Err (At ts)) k e = cc
not_deep room (Err Deep) k e = k

within_zero : (room : ℕ) (ts : List Symbol) → Within count_open room 0 ts → Within count_open (0 + room) (0 + 0) ts
within_zero room ts w = let e : room ≡ 0 + room = omega arith in subst (λ l. Within count_open l (0 + 0) ts) e w

-- the room of the open brackets is enough
pub enough_room : (room : ℕ) (ts : List Symbol) → Within count_open room 0 ts → read_text room ts ≡ Err Deep → ⊥
enough_room room ts w e = not_deep room (read_text room ts) ((text_rule room).shallow 0 ts (within_zero room ts w)) e

-- ---- What is read

done_ok : (c : Text) (r : Read Symbol Text) → IsDone c [] r → (r ≡ Err Deep → ⊥) → r ≡ Ok (c, [])
done_ok c (Ok x) d n = ap Ok d
done_ok c (Err (At ts)) d n = absurd d
done_ok c (Err Deep) d n = absurd (n refl)

pub text_read : (c : Text) (room : ℕ) → Within count_open room 0 (text_symbols c) → read_text room (text_symbols c) ≡ Ok (c, [])
text_read c room w = done_ok c (read_text room (text_symbols c)) (text_gets c room).is (enough_room room (text_symbols c) w)

-- one text at most has given symbols
pub one_text : (a b : Text) → text_symbols a ≡ text_symbols b → a ≡ b
one_text a b e =
    let room = length (text_symbols a) in
    let left : read_text room (text_symbols a) ≡ Ok (a, []) = text_read a room (within_length (text_symbols a)) in
    let right : read_text room (text_symbols b) ≡ Ok (b, []) = text_read b room (subst (λ l. Within count_open room 0 l) e (within_length (text_symbols a))) in
    let both : ◌≡◌ {A = Read Symbol Text} (Ok (a, [])) (Ok (b, [])) = sym left ∙ ap (read_text room) e ∙ right in
    let pair : ◌≡◌ {A = Text × List Symbol} (a, []) (b, []) = cc in
    ap (λ p. p.0) pair

pub one_derived : (limits : Limits) (ss : List Symbol) (a b : Program) → Derives limits ss a → Derives limits ss b → a ≡ b
one_derived limits ss a b d e =
    let same = one_text d.written e.written (sym d.spelled ∙ e.spelled) in
    let trees : ◌≡◌ {A = Result Program TextFault} (Ok a) (Ok b) = sym d.its_tree ∙ ap (λ c. tree_of limits (text_draft c)) same ∙ e.its_tree in
    cc

-- one text reads as one program at most
pub one_tree : (limits_for : Bool → Limits) (text : List ℕ) (a b : Program) → ReadsBy limits_for text a → ReadsBy limits_for text b → a ≡ b
one_tree limits_for text a b r s =
    let same = one_list text s.tokens r.tokens s.lexes r.lexes in
    one_derived (limits_for (has_prelude (symbols r.tokens))) (symbols r.tokens) a b r.derives (subst (λ ts. Derives (limits_for (has_prelude (symbols ts))) (symbols ts) b) same s.derives)

-- ---- Where reading stops

not_done : (c : Text) (r : Read Symbol Text) (rest : List Symbol) → r ≡ Err (At rest) → IsDone c [] r → ⊥
not_done c r rest e d = subst (IsDone c []) e d

refuses : (room : ℕ) (ts before rest : List Symbol) → ts ≡ before ++ rest → read_text room ts ≡ Err (At rest) → Refuses before rest
refuses room ts before [] is e = λ c spelled.
    not_done c (read_text room (text_symbols c)) [] (ap (read_text room) (spelled ∙ sym (append-nil before) ∙ sym is) ∙ e) (text_gets c room).is
refuses room ts before (x ∷ others) is e = λ c tail spelled.
    not_done c (read_text room (text_symbols c)) (x ∷ tail) (ap (read_text room) spelled ∙ (text_rule room).reader.at_same before x others tail [] (ap (read_text room) (sym is) ∙ e)) (text_gets c room).is

pub stops_at : (room : ℕ) (ts rest : List Symbol) → read_text room ts ≡ Err (At rest) → StopsAt ts rest
stops_at room ts rest e =
    let v = (text_rule room).started ts rest e in
    record { before = v.0; split = v.1; begins = (v.2, v.3, v.4); refuses = refuses room ts v.0 rest v.1 e }

-- ---- A text is read to its end

abbrev ToEnd : {A : Type 0} → Reader Symbol A → Type 0
ToEnd {A} p = (ts : List Symbol) (a : A) (rest : List Symbol) → p ts ≡ Ok (a, rest) → rest ≡ []

to_end_after : {A B : Type 0} (p : Reader Symbol A) (f : A → Reader Symbol B) → ((a : A) → ToEnd (f a)) → ToEnd (after p f)
unfolding after
to_end_after p f h ts b rest e = let k = then_ok (p ts) f (b, rest) e in h k.0 k.1 b rest k.3

to_end_fail : {A : Type 0} → ToEnd {A = A} fail
unfolding fail
to_end_fail ts a rest e = absurd (cc)

to_end_finished : {A : Type 0} (c : A) → ToEnd (finished c)
unfolding finished
to_end_finished c [] a rest e = sym (same_ok c [] a rest e).1
to_end_finished c (x ∷ ts) a rest e = absurd (cc)

to_end_either : {A K : Type 0} (test : Symbol → Option K) (past : K → Reader Symbol A) (other : Reader Symbol A) → ((k : K) → ToEnd (past k)) → ToEnd other → ToEnd (either test past other)
unfolding either
to_end_either test past other h o [] a rest e = o [] a rest e
to_end_either {A} {K} test past other h o (x ∷ ts) a rest e = at (test x) e
  where
    at : (s : Option K) → on_some s (λ k. past k ts) (other (x ∷ ts)) ≡ Ok (a, rest) → rest ≡ []
    at None e = o (x ∷ ts) a rest e
    at (Some k) e = h k ts a rest e

without_to_end : (room : ℕ) (line : LineText) (ps : PragmasText) (o : Option (IsTrue (not (context_calls ps)))) → ToEnd (read_without room line ps o)
without_to_end room line ps None = to_end_fail
without_to_end room line ps (Some h) = to_end_after _ _ (λ f. to_end_finished _)

text_to_end : (room : ℕ) → ToEnd (read_text room)
unfolding read_text
text_to_end room =
    to_end_either _ _ _ (λ _. to_end_either _ _ _ (λ _. to_end_either _ _ _ (λ _. to_end_either _ _ _ (λ line. to_end_after _ _ (λ ps.
    to_end_either _ _ _ (λ _. to_end_after _ _ (λ f. to_end_finished _)) (without_to_end room line ps (holding (not (context_calls ps))))))
    to_end_fail) to_end_fail) to_end_fail) to_end_fail

-- what is read is spelled so
pub text_spelled : (room : ℕ) (ts : List Symbol) (c : Text) (rest : List Symbol) → read_text room ts ≡ Ok (c, rest) → ts ≡ text_symbols c
text_spelled room ts c rest e = (text_rule room).sound ts c rest e ∙ ap (λ l. text_symbols c ++ l) (text_to_end room ts c rest e) ∙ append-nil (text_symbols c)
