-- The verdict of a text's symbols is what is wrong with the text.
use Rattle.std.proofs.Common.{◌≡◌, ℕ, ◌-◌, ◌<◌, ◌≤◌, Bool, false, List, [], ◌∷◌, ◌++◌, length, map, take, Option, Some, None, Ok, Err, ◌⊎◌, inl, inr, refl, sym, ap, ◌∙◌, subst, arith, append_assoc, append-nil, length-append}
use Rattle.std.proofs.lemmas.List.{length-map}
use Rattle.std.proofs.lemmas.Option.{same_Some}
use Rattle.std.proofs.Math.Seq.{take-append_seam}
use Rattle.affc_lex.specs.Lexes.{Lexeme, Lexes}
use Rattle.affc_lex.proofs.Exact.{one_list, no_fault}
use Rattle.affc_ast.specs.declared.tree.Program.{Program}
use Rattle.affc_grammar.specs.Grammar.{Symbol, symbol}
use Rattle.affc_grammar.specs.Reader.{At, Deep, Read}
use Rattle.affc_grammar.specs.Reads.{symbols, place_of}
use Rattle.affc_schedtext.specs.declared.plan.SchedFault.{SchedFault}
use Rattle.affc_schedtext.specs.declared.plan.SchedFault.TheVariants as fault
use Rattle.affc_schedtext.specs.Outline.{Outline, outline}
use Rattle.affc_schedtext.specs.Grammar.{Text, text_symbols, Begins, Refuses, IsProduct}
use Rattle.affc_schedtext.specs.Draft.{Draft, text_draft}
use Rattle.affc_schedtext.specs.Rules.{fold_sides, Breach, statement, length_of_line, fold, limit, place_in, breaches}
use Rattle.affc_schedtext.specs.Answers.{IsFirstProduct, HasNoProduct, IsFurthest, Stops, IsStop, StopsText, Spells, draft_of, breaches_of, Breaks, Keeps, IsFault}
use Rattle.affc_schedtext.specs.Reading.{read_text}
use Rattle.affc_schedtext.specs.Verdict.{Pair, Verdict, reads, syntax, breaks, pair_of, schedule_pairs, product_in, or_behind, of_breaches, of_read, verdict, broken, fault_of, IsOfSymbols, Says, VerdictsSay}
use Rattle.affc_schedtext.proofs.DraftReads.{ended}
use Rattle.affc_schedtext.proofs.Excludes.{same_draft, same_breaches, not_stopped, not_faulty, not_broken}
use Rattle.affc_schedtext.proofs.ProductComplete.{exact}
use Rattle.affc_schedtext.proofs.Roomy.{roomy_text}
use Rattle.affc_schedtext.proofs.Texts as texts

-- ---- Where symbols stop

-- the longer of two fronts goes on with the first symbol behind the shorter one
goes_on : (xs us ys vs : List Symbol) → xs ++ us ≡ ys ++ vs → length xs < length ys → (x : Symbol) × (zs : List Symbol) × (ys ≡ xs ++ x ∷ zs) × (us ≡ x ∷ (zs ++ vs))
goes_on [] us [] vs e lt = absurd (omega (arith, lt))
goes_on [] us (y ∷ ys) vs e lt = (y, ys, refl, e)
goes_on (x ∷ xs) us [] vs e lt = absurd (omega (arith, lt))
goes_on (x ∷ xs) us (y ∷ ys) vs e lt =
    let first : x ≡ y = cc in
    let more : xs ++ us ≡ ys ++ vs = cc in
    let k = goes_on xs us ys vs more (omega (arith, lt)) in
    (k.0, k.1, (λ i. sym first i ∷ k.2 i), k.3)

not_shorter : (o : Outline) (xs us ys vs : List Symbol) → xs ++ us ≡ ys ++ vs → IsFurthest o xs us → Begins o ys → length xs < length ys → ⊥
not_shorter o xs us ys vs e furthest begun lt =
    let k = goes_on xs us ys vs e lt in
    let refuses : Refuses o xs (k.0 ∷ (k.1 ++ vs)) = subst (IsFurthest o xs) k.3 furthest in
    refuses begun.0 (k.1 ++ begun.1) (begun.2 ∙ ap (λ l. l ++ begun.1) k.2 ∙ append_assoc xs (k.0 ∷ k.1) begun.1)

module _ (o : Outline) (is_cut : Bool) (ss : List Symbol) (a b : ℕ) (s : IsStop o is_cut ss a) (t : IsStop o is_cut ss b) where
  same_all : s.before ++ s.rest ≡ t.before ++ t.rest
  same_all = sym s.split ∙ t.split

  same_size : length s.before ≡ length t.before
  same_size = by (not_shorter o s.before s.rest t.before t.rest same_all s.furthest t.begins) (not_shorter o t.before t.rest s.before s.rest (sym same_all) t.furthest s.begins)
    where
      by : (length s.before < length t.before → ⊥) → (length t.before < length s.before → ⊥) → length s.before ≡ length t.before
      by f g = omega (arith, f, g)

  same_before : s.before ≡ t.before
  same_before =
      sym (take-append_seam s.before s.rest)
      ∙ (λ i. take (same_size i) (same_all i))
      ∙ take-append_seam t.before t.rest

  least_of : IsFirstProduct s.before a → IsFirstProduct t.before b → a ≤ b
  least_of p q = p.1 b (subst (λ l. IsProduct l b) (sym same_before) q.0)

  least_back : IsFirstProduct s.before a → IsFirstProduct t.before b → b ≤ a
  least_back p q = q.1 a (subst (λ l. IsProduct l a) same_before p.0)

  stop_is_one : a ≡ b
  stop_is_one = of_causes s.cause t.cause
    where
      of_causes : IsFirstProduct s.before a ⊎ (HasNoProduct s.before × (a ≡ length s.before) × Stops o is_cut s.before s.rest)
          → IsFirstProduct t.before b ⊎ (HasNoProduct t.before × (b ≡ length t.before) × Stops o is_cut t.before t.rest) → a ≡ b
      of_causes (inl p) (inl q) = let le = least_of p q in let ge = least_back p q in omega (arith, le, ge)
      of_causes (inl p) (inr q) = absurd (q.0 a (subst (λ l. IsProduct l a) same_before p.0))
      of_causes (inr p) (inl q) = absurd (p.0 b (subst (λ l. IsProduct l b) (sym same_before) q.0))
      of_causes (inr p) (inr q) = p.1 ∙ same_size ∙ sym q.1

-- ---- What a verdict says

module _ (text : List ℕ) (program : Program) (tokens : List Lexeme) (lexes : Lexes text tokens) where
  abbrev o : Outline
  o = outline program

  abbrev ss : List Symbol
  ss = symbols tokens

  module _ (at : ℕ) (stop : IsStop o false ss at) where
    stops_text : StopsText text o (place_of text tokens at)
    stops_text = record { tokens = tokens; lexes = lexes; at = at; stop = stop; its_place = refl }

    stops_there : (place : ℕ) → StopsText text o place → place ≡ place_of text tokens at
    stops_there place t =
        let same = one_list text t.tokens tokens t.lexes lexes in
        let one = stop_is_one o false ss t.at at (subst (λ (ts : List Lexeme). IsStop o false (symbols ts) t.at) same t.stop) stop in
        t.its_place ∙ (λ i. place_of text (same i) (one i))

    never_spelled : Spells text o → ⊥
    never_spelled s = not_stopped text o s (place_of text tokens at) stops_text

    fault_is : (f : SchedFault) → IsOfSymbols f → IsFault text program f → fault_of text tokens (syntax at) ≡ Some f
    fault_is (fault.Syntax place) k (inl t) = ap (λ p. Some (fault.Syntax p)) (sym (stops_there place t))
    fault_is (fault.Syntax place) k (inr t) = absurd (no_fault text tokens t.fault lexes t.stands)
    fault_is (fault.Statement place) k b = absurd (never_spelled b.1.spells)
    fault_is (fault.Length place) k b = absurd (never_spelled b.1.spells)
    fault_is (fault.Fold place) k b = absurd (never_spelled b.1.spells)
    fault_is (fault.Limit place) k b = absurd (never_spelled b.1.spells)
    fault_is (fault.Inverse s n) k h = absurd k
    fault_is (fault.Basis array n) k h = absurd k
    fault_is fault.Memory k h = absurd k

    stop_says : Says text program tokens (syntax at)
    stop_says = record {
      faults = λ f k. (fault_is f k, λ e. subst (IsFault text program) (same_Some (fault.Syntax (place_of text tokens at)) f e) (inl stops_text));
      plans = λ lines folds. (λ r. absurd (never_spelled r.keeps.spells), λ e. absurd (cc));
    }

  module _ (s : Spells text o) where
    place_there : (at : ℕ) → place_of text s.tokens at ≡ place_of text tokens at
    place_there at = ap (λ ts. place_of text ts at) (one_list text s.tokens tokens s.lexes lexes)

  none_first : (b : Breach) (bs : List Breach) → ◌≡◌ {A = List Breach} [] (b ∷ bs) → ⊥
  none_first b bs e = absurd (cc)

  module _ (s : Spells text o) (none : breaches_of s ≡ []) where
    abbrev kept : Keeps text o
    kept = record { spells = s; none = none }

    no_fault_of_symbols : (f : SchedFault) → IsOfSymbols f → IsFault text program f → ⊥
    no_fault_of_symbols (fault.Syntax place) k (inl t) = not_stopped text o s place t
    no_fault_of_symbols (fault.Syntax place) k (inr t) = not_faulty text o s place t
    no_fault_of_symbols (fault.Statement place) k b = not_broken text o kept place (statement b.0) b.1
    no_fault_of_symbols (fault.Length place) k b = not_broken text o kept place (length_of_line b.0) b.1
    no_fault_of_symbols (fault.Fold place) k b = not_broken text o kept place (fold b.0) b.1
    no_fault_of_symbols (fault.Limit place) k b = not_broken text o kept place (limit b.0) b.1
    no_fault_of_symbols (fault.Inverse n m) k h = k
    no_fault_of_symbols (fault.Basis array n) k h = k
    no_fault_of_symbols fault.Memory k h = k

    abbrev lines_of : Draft → Verdict
    lines_of d = reads (schedule_pairs o d.order) (map (λ l. pair_of (fold_sides o l)) d.folds)

    kept_says : Says text program tokens (lines_of (draft_of s))
    kept_says = record {
      faults = λ f k. (λ h. absurd (no_fault_of_symbols f k h), λ e. absurd (cc));
      plans = λ lines folds. (
        λ r. ap lines_of (same_draft text o s r.keeps.spells) ∙ (λ i. reads (sym r.are_lines i) (sym r.are_folds i)),
        λ e. record { keeps = kept; are_lines = sym (same_reads _ _ lines folds e).0; are_folds = sym (same_reads _ _ lines folds e).1 },
      );
    }
      where
        same_reads : (a : Option (List Pair)) (b : List Pair) (c : Option (List Pair)) (d : List Pair) → reads a b ≡ reads c d → (a ≡ c) × (b ≡ d)
        same_reads a b c d e = (cc, cc)

  module _ (s : Spells text o) (breach : Breach) (others : List Breach) (first : breaches_of s ≡ breach ∷ others) where
    breaks_text : Breaks text o (place_of text tokens (place_in breach)) breach
    breaks_text = record { spells = s; others = others; first = first; its_place = sym (place_there s (place_in breach)) }

    never_kept : Keeps text o → ⊥
    never_kept k = not_broken text o k (place_of text tokens (place_in breach)) breach breaks_text

    breaks_there : (place : ℕ) (other : Breach) → Breaks text o place other → broken (place_of text tokens (place_in breach)) breach ≡ broken place other
    breaks_there place other b =
        let all : ◌≡◌ {A = List Breach} (breach ∷ others) (other ∷ b.others) = sym first ∙ same_breaches text o s b.spells ∙ b.first in
        let same : breach ≡ other = cc in
        (λ i. broken (place_of text tokens (place_in (same i))) (same i)) ∙ ap (λ p. broken p other) (sym (b.its_place ∙ place_there b.spells (place_in other)))

    breach_is : (f : SchedFault) → IsOfSymbols f → IsFault text program f → fault_of text tokens (breaks breach) ≡ Some f
    breach_is (fault.Syntax place) k (inl t) = absurd (not_stopped text o s place t)
    breach_is (fault.Syntax place) k (inr t) = absurd (not_faulty text o s place t)
    breach_is (fault.Statement place) k b = ap Some (breaks_there place (statement b.0) b.1)
    breach_is (fault.Length place) k b = ap Some (breaks_there place (length_of_line b.0) b.1)
    breach_is (fault.Fold place) k b = ap Some (breaks_there place (fold b.0) b.1)
    breach_is (fault.Limit place) k b = ap Some (breaks_there place (limit b.0) b.1)
    breach_is (fault.Inverse n m) k h = absurd k
    breach_is (fault.Basis array n) k h = absurd k
    breach_is fault.Memory k h = absurd k

  is_broken : (place : ℕ) (breach : Breach) → Breaks text o place breach → IsFault text program (broken place breach)
  is_broken place (statement at) b = (at, b)
  is_broken place (length_of_line at) b = (at, b)
  is_broken place (fold at) b = (at, b)
  is_broken place (limit at) b = (at, b)

  spelled_says : (s : Spells text o) (bs : List Breach) → breaches_of s ≡ bs → Says text program tokens (of_breaches o (draft_of s) bs)
  spelled_says s [] e = kept_says s e
  spelled_says s (b ∷ bs) e = record {
    faults = λ f k. (
      breach_is s b bs e f k,
      λ q. subst (IsFault text program) (same_Some (broken (place_of text tokens (place_in b)) b) f q) (is_broken (place_of text tokens (place_in b)) b (breaks_text s b bs e)),
    );
    plans = λ lines folds. (λ r. absurd (never_kept s b bs e r.keeps), λ q. absurd (cc));
  }

  -- ---- The verdict of its symbols

  abbrev spelling : (c : Text o) → ss ≡ text_symbols c → HasNoProduct ss → Spells text o
  spelling c e affine = record { tokens = tokens; lexes = lexes; written = c; spelled = e; affine = affine }

  says_read : (c : Text o) → ss ≡ text_symbols c → (p : Option ℕ) → p ≡ product_in ss
      → Says text program tokens (elim p [ None ↦ of_breaches o (text_draft c) (breaches o (length ss) (text_draft c)) | Some at ↦ syntax at ])
  says_read c e None q = spelled_says (spelling c e (exact ss None q)) (breaches o (length ss) (text_draft c)) (ap (λ n. breaches o n (text_draft c)) (sym (length-map tokens symbol)))
  says_read c e (Some at) q =
      stop_says at (record {
        before = ss;
        rest = [];
        split = sym (append-nil ss);
        begins = (c, [], sym e ∙ sym (append-nil ss));
        furthest = tt;
        cause = inl (exact ss (Some at) q);
      })

  -- what stands before the rest, and how much that is
  before_rest : (before rest : List Symbol) → ss ≡ before ++ rest → (length ss - length rest ≡ length before) × (take (length ss - length rest) ss ≡ before)
  before_rest before rest e =
      let size = length-append before rest in
      let all = ap length e in
      let n : length ss - length rest ≡ length before = omega (arith, size, all) in
      (n, (λ i. take (n i) (e i)) ∙ take-append_seam before rest)

  module _ (before rest : List Symbol) (e : ss ≡ before ++ rest) (begun : Begins o before) (refuses : Refuses o before rest) where
    furthest_in : (rest : List Symbol) → Refuses o before rest → IsFurthest o before rest
    furthest_in [] h = tt
    furthest_in (x ∷ rest) h = h

    stopping : (rest : List Symbol) → Refuses o before rest → Stops o false before rest
    stopping [] h = h
    stopping (x ∷ rest) h = h

    abbrev stop_for : {at : ℕ} → IsFirstProduct before at ⊎ (HasNoProduct before × (at ≡ length before) × Stops o false before rest) → IsStop o false ss at
    stop_for cause = record { before = before; rest = rest; split = e; begins = begun; furthest = furthest_in rest refuses; cause = cause }

    by_product : (p : Option ℕ) → p ≡ product_in before → Says text program tokens (syntax (or_behind (length before) p))
    by_product None q = stop_says (length before) (stop_for (inr (exact before None q, refl, stopping rest refuses)))
    by_product (Some at) q = stop_says at (stop_for (inl (exact before (Some at) q)))

    says_stop : Says text program tokens (syntax (or_behind (length ss - length rest) (product_in (take (length ss - length rest) ss))))
    says_stop =
        let k = before_rest before rest e in
        subst (λ n. Says text program tokens (syntax n)) (sym (λ i. or_behind (k.0 i) (product_in (k.1 i)))) (by_product (product_in before) refl)

  by_read : (r : Read Symbol (Text o)) → read_text o (length ss) ss ≡ r → Says text program tokens (of_read o ss r)
  by_read (Ok r) e =
      let whole : ss ≡ text_symbols r.0 = texts.spelled o (length ss) ss r.0 r.1 e ∙ ap (λ l. text_symbols r.0 ++ l) (ended o (length ss) ss r.0 r.1 e) ∙ append-nil (text_symbols r.0) in
      says_read r.0 whole (product_in ss) refl
  by_read (Err (At rest)) e = let s = texts.stops_at o (length ss) ss rest e in says_stop s.before rest s.split s.begins s.refuses
  by_read (Err Deep) e = absurd ((roomy_text o (length ss)).never ss (omega arith) e)

  says : Says text program tokens (verdict program ss)
  says = by_read (read_text o (length ss) ss) refl

pub verdicts_say : VerdictsSay
verdicts_say text program tokens lexes = says text program tokens lexes
