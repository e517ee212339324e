-- The conditions of the lines before a function without the prelude have no calls, are plain and at most 16.
use Rattle.std.proofs.Common.{◌≡◌, ℕ, ◌+◌, ◌≤◌, Bool, true, false, List, [], ◌∷◌, ◌++◌, length, flat_map, codes, Ok, refl, sym, ap, subst, ◌∙◌, arith, length-append}
use Rattle.std.specs.Prelude.{◌&&◌, ◌||◌, nat_lt, nat_le}
use Rattle.std.proofs.lemmas.Bool.{false≢true}
use Rattle.std.proofs.lemmas.Bool.Decides.{nat_tests}
use Rattle.affc_lex.specs.Bytes.{same}
use Rattle.affc_ast.specs.declared.tree.Compare.{Compare}
use Rattle.affc_ast.specs.Joined.{is_ordered}
use Rattle.affc_grammar.specs.Grammar as g
use Rattle.affc_grammar.specs.Grammar.{Name, Symbol, is_word_kind, is_mark_kind, IxText, TermText, FactorText, AtomText, CondText, AllText, PrimText, PragmasText, ix_symbols, term_symbols, factor_symbols, atom_symbols, cond_symbols, all_symbols, prim_symbols, has_call, context_calls}
use Rattle.affc_grammar.specs.Draft.{CompareDraft, CondsDraft, no_conds, and_cond, PragmaDraft, range, context, ix_draft, term_draft, factor_draft, atom_draft, and_conds, conjuncts, cond_draft, all_draft, prim_draft, comparison_in, comparisons_of, comparisons_in, pragmas_draft}
use Rattle.affc_grammar.specs.Names.{Scope, each, why_ranged, thing_of, compare_tree, pragmas_tree}
use Rattle.affc_grammar.specs.Limits.{at_if, sides, pragma_texts, contexts_past}
use Rattle.affc_trace.proofs.Members.{both_hold, hold_both}
use Rattle.affc_domain.specs.Plain.{is_plain, plain_tests}
use Rattle.affc_plain.proofs.Lists.{no_append}
use Rattle.affc_plain.proofs.Forms.{HasNoCalls, then_ok, not_placed}
use Rattle.affc_plain.proofs.Small.{HasNumbers, neither, at_most}
use Rattle.affc_plain.proofs.Expressions.{AllFine, AreOrdered, fine_parts, ok_of, allowed_ok, each_length, tests_plain}
use Rattle.affc_plain.proofs.FromGrammar.{NoCalls, calls_both}

call_left : (xs ys : List Symbol) → has_call (xs ++ ys) ≡ false → has_call xs ≡ false
call_left [] ys h = refl
call_left (x ∷ []) ys h = refl
call_left (x ∷ y ∷ xs) ys h =
    let p = neither (is_word_kind x.kind && is_mark_kind y.kind && same y.bytes (codes "(")) (has_call (y ∷ (xs ++ ys))) h in
    ap (λ t. t || has_call (y ∷ xs)) p.0 ∙ call_left (y ∷ xs) ys p.1

call_tail : (x : Symbol) (ys : List Symbol) → has_call (x ∷ ys) ≡ false → has_call ys ≡ false
call_tail x [] h = refl
call_tail x (y ∷ ys) h = (neither (is_word_kind x.kind && is_mark_kind y.kind && same y.bytes (codes "(")) (has_call (y ∷ ys)) h).1

call_right : (xs ys : List Symbol) → has_call (xs ++ ys) ≡ false → has_call ys ≡ false
call_right [] ys h = h
call_right (x ∷ xs) ys h = call_right xs ys (call_tail x (xs ++ ys) h)

parts_at : (xs : List Symbol) (m : Symbol) (ys : List Symbol) → has_call (xs ++ m ∷ ys) ≡ false → (has_call xs ≡ false) × (has_call ys ≡ false)
parts_at xs m ys h = (call_left xs (m ∷ ys) h, call_tail m ys (call_right xs (m ∷ ys) h))

mutual
  ix_free : {b : Bool} (at : ℕ) (a : IxText b) → has_call (ix_symbols a) ≡ false → HasNoCalls (ix_draft at a)
  ix_free at (g.term a) h = term_free at a h
  ix_free at (g.plus a b) h = let p = parts_at (ix_symbols a) (g.mark (codes "+")) (term_symbols b) h in (ix_free at a p.0, term_free _ b p.1)
  ix_free at (g.minus a b) h = let p = parts_at (ix_symbols a) (g.mark (codes "-")) (term_symbols b) h in (ix_free at a p.0, term_free _ b p.1)

  term_free : {b : Bool} (at : ℕ) (a : TermText b) → has_call (term_symbols a) ≡ false → HasNoCalls (term_draft at a)
  term_free at (g.factor a) h = factor_free at a h
  term_free at (g.times a b) h = let p = parts_at (term_symbols a) (g.mark (codes "*")) (factor_symbols b) h in (term_free at a p.0, factor_free _ b p.1)

  factor_free : {b : Bool} (at : ℕ) (a : FactorText b) → has_call (factor_symbols a) ≡ false → HasNoCalls (factor_draft at a)
  factor_free at (g.atom a) h = atom_free at a h
  factor_free at (g.negated a) h = atom_free (at + 1) a (call_tail (g.mark (codes "-")) (atom_symbols a) h)

  atom_free : {b : Bool} (at : ℕ) (a : AtomText b) → has_call (atom_symbols a) ≡ false → HasNoCalls (atom_draft at a)
  atom_free at (g.literal digits) h = tt
  atom_free at (g.name w) h = tt
  atom_free at (g.grouped a) h = ix_free (at + 1) a (call_left (ix_symbols a) (g.mark (codes ")") ∷ []) (call_tail (g.mark (codes "(")) (ix_symbols a ++ g.mark (codes ")") ∷ []) h))
  atom_free at (g.chosen k f a b) h = absurd (false≢true (sym h))
  atom_free at (g.divided k f a by l) h = absurd (false≢true (sym h))

-- ---- The comparisons of a line

-- no calls, and not "!="
abbrev IsLineTest : CompareDraft → Type 0
IsLineTest c = HasNoCalls c.left × HasNoCalls c.right × (is_ordered c.rel ≡ true)

abbrev AreLineTests : List CompareDraft → Type 0
AreLineTests [] = Unit {0}
AreLineTests (c ∷ cs) = IsLineTest c × AreLineTests cs

tests_both : (cs ds : List CompareDraft) → AreLineTests cs → AreLineTests ds → AreLineTests (cs ++ ds)
tests_both [] ds h k = k
tests_both (c ∷ cs) ds h k = (h.0, tests_both cs ds h.1 k)

tests_calls : (cs : List CompareDraft) → AreLineTests cs → NoCalls (flat_map sides cs)
tests_calls [] h = tt
tests_calls (c ∷ cs) h = (h.0.0, (h.0.1, tests_calls cs h.1))

tests_ordered : (cs : List CompareDraft) → AreLineTests cs → AreOrdered cs
tests_ordered [] h = tt
tests_ordered (c ∷ cs) h = (h.0.2, tests_ordered cs h.1)

joined_tests : (cs ds : CondsDraft) → AreLineTests (comparisons_of cs) → AreLineTests (comparisons_of ds) → AreLineTests (comparisons_of (and_conds cs ds))
joined_tests cs no_conds h k = h
joined_tests cs (and_cond ds d) h k = let p = parts (comparisons_of ds) (comparison_in d) k in tests_both (comparisons_of (and_conds cs ds)) (comparison_in d) (joined_tests cs ds h p.0) p.1
  where
    parts : (xs ys : List CompareDraft) → AreLineTests (xs ++ ys) → AreLineTests xs × AreLineTests ys
    parts [] ys h = (tt, h)
    parts (x ∷ xs) ys h = let p = parts xs ys h.1 in ((h.0, p.0), p.1)

mutual
  cond_tests : {b : Bool} (at : ℕ) (c : CondText b false) → has_call (cond_symbols c) ≡ false → AreLineTests (comparisons_in (cond_draft at c))
  cond_tests at (g.all_of a) h = all_tests at a h
  cond_tests at (g.or_all w c a) h = absurd (false≢true w)

  all_tests : {b : Bool} (at : ℕ) (a : AllText b false) → has_call (all_symbols a) ≡ false → AreLineTests (comparisons_in (all_draft at a))
  all_tests at (g.prim q) h = prim_tests at q h
  all_tests at (g.and_prim a q) h =
      let p = parts_at (all_symbols a) (g.mark (codes "&&")) (prim_symbols q) h in
      let next = at + length (all_symbols a) + 1 in
      joined_tests (conjuncts (all_draft at a)) (conjuncts (prim_draft next q)) (all_tests at a p.0) (prim_tests next q p.1)

  prim_tests : {b : Bool} (at : ℕ) (q : PrimText b false) → has_call (prim_symbols q) ≡ false → AreLineTests (comparisons_in (prim_draft at q))
  prim_tests at (g.enclosed c) h = cond_tests (at + 1) c (call_left (cond_symbols c) (g.mark (codes ")") ∷ []) (call_tail (g.mark (codes "(")) (cond_symbols c ++ g.mark (codes ")") ∷ []) h))
  prim_tests at (g.compared a rel o b) h = let p = parts_at (ix_symbols a) (g.mark (g.rel_mark rel)) (ix_symbols b) h in ((ix_free at a p.0, ix_free _ b p.1, o), tt)
  prim_tests at (g.divisible w t by k so) h = absurd (false≢true w)

-- ---- Lines

abbrev pub AreBareLines : List PragmaDraft → Type 0
AreBareLines [] = Unit {0}
AreBareLines (range w low_at low high ∷ ps) = AreBareLines ps
AreBareLines (context at cs ∷ ps) = AreLineTests cs × AreBareLines ps

lines_both : (ps qs : List PragmaDraft) → AreBareLines ps → AreBareLines qs → AreBareLines (ps ++ qs)
lines_both [] qs h k = k
lines_both (range w low_at low high ∷ ps) qs h k = lines_both ps qs h k
lines_both (context at cs ∷ ps) qs h k = (h.0, lines_both ps qs h.1 k)

pub lines_bare : (at : ℕ) (ps : PragmasText) → context_calls ps ≡ false → AreBareLines (pragmas_draft at ps)
lines_bare at g.no_pragmas h = tt
lines_bare at (g.and_range ps w low high line) h = lines_both (pragmas_draft at ps) _ (lines_bare at ps h) tt
lines_bare at (g.and_context ps cs line) h =
    let p = neither (context_calls ps) (has_call (cond_symbols cs)) h in
    lines_both (pragmas_draft at ps) _ (lines_bare at ps p.0) (cond_tests _ cs p.1, tt)

pub lines_calls : (ps : List PragmaDraft) → AreBareLines ps → NoCalls (flat_map pragma_texts ps)
lines_calls [] h = tt
lines_calls (range w low_at low high ∷ ps) h = lines_calls ps h
lines_calls (context at cs ∷ ps) h = calls_both (flat_map sides cs) (flat_map pragma_texts ps) (tests_calls cs h.0) (lines_calls ps h.1)

plain_both : (n : ℕ) (xs ys : List Compare) → plain_tests n xs ≡ true → plain_tests n ys ≡ true → plain_tests n (xs ++ ys) ≡ true
plain_both n [] ys h k = k
plain_both n (x ∷ xs) ys h k =
    let a = both_hold (is_plain n x.left) (is_plain n x.right && (is_ordered x.rel && plain_tests n xs)) h in
    let b = both_hold (is_plain n x.right) (is_ordered x.rel && plain_tests n xs) a.1 in
    let c = both_hold (is_ordered x.rel) (plain_tests n xs) b.1 in
    hold_both (is_plain n x.left) (is_plain n x.right && (is_ordered x.rel && plain_tests n (xs ++ ys))) a.0
    (hold_both (is_plain n x.right) (is_ordered x.rel && plain_tests n (xs ++ ys)) b.0 (hold_both (is_ordered x.rel) (plain_tests n (xs ++ ys)) c.0 (plain_both n xs ys c.1 k)))

pub lines_plain : (scope : Scope) (n : ℕ) → HasNumbers scope n → (earlier : List Name) (ps : List PragmaDraft) (xs : List Compare) → pragmas_tree scope earlier ps ≡ Ok xs → AllFine (flat_map pragma_texts ps) → AreBareLines ps → plain_tests n xs ≡ true
lines_plain scope n numbers earlier [] xs t f b = ap (plain_tests n) (sym (ok_of t))
lines_plain scope n numbers earlier (range w low_at low high ∷ ps) xs t f b =
    let a = allowed_ok (why_ranged scope earlier w.name (thing_of scope w.name)) w.at _ xs t in
    lines_plain scope n numbers (w.name ∷ earlier) ps xs a.1 f b
lines_plain scope n numbers earlier (context at cs ∷ ps) xs t f b =
    let r = then_ok (each (compare_tree scope) cs) _ xs t in
    let q = then_ok (pragmas_tree scope earlier ps) _ xs r.2 in
    let p = fine_parts (flat_map sides cs) (flat_map pragma_texts ps) f in
    ap (plain_tests n) (sym (ok_of q.2)) ∙ plain_both n r.0 q.0 (tests_plain scope n numbers cs r.0 r.1 p.0 (tests_ordered cs b.0)) (lines_plain scope n numbers earlier ps q.0 q.1 p.1 b.1)

-- where so many comparisons stand before, at most 16 with them
pub lines_few : (scope : Scope) (n : ℕ) → n ≤ 16 → (earlier : List Name) (ps : List PragmaDraft) (xs : List Compare) → pragmas_tree scope earlier ps ≡ Ok xs → contexts_past n ps ≡ [] → n + length xs ≤ 16
lines_few scope n h earlier [] xs t e = subst (λ z. n + length z ≤ 16) (ok_of t) (more n h)
  where
    more : (n : ℕ) → n ≤ 16 → n + 0 ≤ 16
    more n h = omega (arith, h)
lines_few scope n h earlier (range w low_at low high ∷ ps) xs t e =
    let a = allowed_ok (why_ranged scope earlier w.name (thing_of scope w.name)) w.at _ xs t in
    lines_few scope n h (w.name ∷ earlier) ps xs a.1 e
lines_few scope n h earlier (context at cs ∷ ps) xs t e =
    let r = then_ok (each (compare_tree scope) cs) _ xs t in
    let q = then_ok (pragmas_tree scope earlier ps) _ xs r.2 in
    let p = no_append (at_if (nat_lt 16 (n + length cs)) at) (contexts_past (n + length cs) ps) e in
    let inner = lines_few scope (n + length cs) (few (n + length cs) (at_most 16 (n + length cs) (not_placed (nat_lt 16 (n + length cs)) at p.0))) earlier ps q.0 q.1 p.1 in
    subst (λ z. n + length z ≤ 16) (ok_of q.2)
    (sum n (length cs) (length r.0) (length q.0) (length (r.0 ++ q.0)) (each_length (compare_tree scope) cs r.0 r.1) (length-append r.0 q.0) inner)
  where
    few : (k : ℕ) → nat_le k 16 ≡ true → k ≤ 16
    few k e = grind (arith, nat_tests)

    sum : (n c r q s : ℕ) → r ≡ c → s ≡ r + q → (n + c) + q ≤ 16 → n + s ≤ 16
    sum n c r q s e f g = omega (arith, e, f, g)
