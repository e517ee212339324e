-- Where symbols stop, and places of tokens.
use Rattle.std.proofs.Common.{◌≡◌, ℕ, zero, suc, ◌≤◌, true, false, List, Option, Some, None, [], ◌∷◌, length, map, take, drop, refl, sym, ◌∙◌, subst, inl, inr, arith, append-nil}
use Rattle.std.proofs.lemmas.List.{append_cancel_right, take-append-drop, take_all, drop_all, length-take-le, length-map, take-map}
use Rattle.std.specs.Prelude.{MatchOption, Ok, Err}
use Rattle.affc_lex.specs.declared.token.Token.{Token}
use Rattle.affc_lex.specs.Lexes.{Lexeme, Lexes, lexemes}
use Rattle.affc_syntax.specs.declared.draft.symbol.Symbol as code_symbol
use Rattle.affc_syntax.specs.draft.Symbols.{seen}
use Rattle.affc_grammar.specs.Grammar.{Symbol}
use Rattle.affc_grammar.specs.Reads.{place_of}
use Rattle.affc_syntax.specs.declared.ahead.Stop.TheVariants as stop
use Rattle.affc_parse.specs.Shown.{shown}
use Rattle.affc_schedtext.specs.declared.outline.Outline.{Outline}
use Rattle.affc_schedtext.specs.declared.draft.Draft as code
use Rattle.affc_schedtext.specs.Grammar.{Text, text_symbols, Begins, Refuses, StopsAt}
use Rattle.affc_schedtext.specs.Answers.{IsFirstProduct, HasNoProduct, IsFurthest, Stops, IsStop, StopsText}
use Rattle.affc_schedtext.specs.Draft.{text_draft}
use Rattle.affc_schedtext.specs.ReadAnswers.{IsRead}
use Rattle.affc_schedtext.specs.Seen.{draft_seen}
use Rattle.affc_schedtext.proofs.Texts as texts
use Rattle.affc_plan.specs.Stages.{IsStopBehind, IsReach, IsDraftOf}
use Rattle.affc_plan.proofs.FrontLaws.{none_of}
use Rattle.affc_plan.proofs.SchedHeaders.{spelled_back, stop_back}

-- ---- Places

-- only where tokens begin counts
pub same_place : (text a b : List ℕ) (ts : List Token) (n : ℕ) → place_of text (lexemes a ts) n ≡ place_of text (lexemes b ts) n
same_place text a b [] n = refl
same_place text a b (t ∷ ts) zero = refl
same_place text a b (t ∷ ts) (suc n) = same_place text a b ts n

-- ---- Symbols

furthest_of : (o : Outline) (before rest : List Symbol) → Refuses o before rest → IsFurthest o before rest
furthest_of o before [] h = tt
furthest_of o before (x ∷ rest) h = h

stops_of : (o : Outline) (before rest : List Symbol) → Refuses o before rest → Stops o false before rest
stops_of o before [] h = h
stops_of o before (x ∷ rest) h = h

cut_stops : (o : Outline) (before rest : List Symbol) → IsFurthest o before rest → Stops o true before rest
cut_stops o before [] h = tt
cut_stops o before (x ∷ rest) h = h

-- what was read up to the place where reading stops
before_is : (o : Outline) (ss : List Symbol) (to : ℕ) (h : StopsAt o ss (drop to ss)) → h.before ≡ take to ss
before_is o ss to h = append_cancel_right h.before (take to ss) (drop to ss) (sym h.split ∙ sym (take-append-drop to ss))

pub reach_of : (o : Outline) (ss : List Symbol) (to : ℕ) → StopsAt o ss (drop to ss) → IsReach o ss to
reach_of o ss to h = record {
  begins = subst (Begins o) (before_is o ss to h) h.begins;
  furthest = furthest_of o (take to ss) (drop to ss) (subst (λ b. Refuses o b (drop to ss)) (before_is o ss to h) h.refuses);
}

begins_whole : (o : Outline) (ss : List Symbol) (c : Text o) → ss ≡ text_symbols c → Begins o ss
begins_whole o ss c e = (c, [], sym e ∙ sym (append-nil ss))

pub reach_whole : (o : Outline) (ss : List Symbol) (c : Text o) (to : ℕ) → to ≡ length ss → ss ≡ text_symbols c → IsReach o ss to
reach_whole o ss c to is e = record {
  begins = subst (Begins o) (sym (take_all to ss (omega arith))) (begins_whole o ss c e);
  furthest = subst (IsFurthest o (take to ss)) (sym (drop_all to ss (omega arith))) tt;
}

-- a stop, where a text is cut off behind the symbols
pub stop_cut : (o : Outline) (ss : List Symbol) (to at : ℕ) → IsReach o ss to → IsStopBehind (take to ss) at → IsStop o true ss at
stop_cut o ss to at r h = record {
  before = take to ss;
  rest = drop to ss;
  split = sym (take-append-drop to ss);
  begins = r.begins;
  furthest = r.furthest;
  cause = elim h [ inl p ↦ inl p | inr q ↦ inr (q.0, q.1, cut_stops o (take to ss) (drop to ss) r.furthest) ];
}

pub stop_at : (o : Outline) (ss : List Symbol) (to at : ℕ) → StopsAt o ss (drop to ss) → IsStopBehind (take to ss) at → IsStop o false ss at
stop_at o ss to at s h =
    let r = reach_of o ss to s in
    record {
      before = take to ss;
      rest = drop to ss;
      split = sym (take-append-drop to ss);
      begins = r.begins;
      furthest = r.furthest;
      cause = elim h [ inl p ↦ inl p | inr q ↦ inr (q.0, q.1, stops_of o (take to ss) (drop to ss) (subst (λ b. Refuses o b (drop to ss)) (before_is o ss to s) s.refuses)) ];
    }

pub stop_product : (o : Outline) (ss : List Symbol) (c : Text o) (at : ℕ) → ss ≡ text_symbols c → IsFirstProduct ss at → IsStop o false ss at
stop_product o ss c at e p = record {
  before = ss;
  rest = [];
  split = sym (append-nil ss);
  begins = begins_whole o ss c e;
  furthest = tt;
  cause = inl p;
}

-- ---- What the calls answer

pub some_of : {V : Type 0} (Q : Type 0) (P : V → Type 0) (o : Option V) (v : V) → o ≡ Some v → MatchOption o Q P → P v
some_of Q P None v e h = absurd (cc)
some_of Q P (Some w) v e h = let same : w ≡ v = cc in subst P same h

module _ (ss : List code_symbol.Symbol) (to : ℕ) (found : Option ℕ) (h : MatchOption found (HasNoProduct (map seen (take to ss))) (IsFirstProduct (map seen (take to ss)))) where
  pub product_found : (at : ℕ) → found ≡ Some at → IsStopBehind (take to (map seen ss)) at
  product_found at e = inl (subst (λ xs. IsFirstProduct xs at) (sym (take-map seen to ss)) (some_of (HasNoProduct (map seen (take to ss))) (IsFirstProduct (map seen (take to ss))) found at e h))

  pub product_none : to ≤ length ss → found ≡ None → IsStopBehind (take to (map seen ss)) to
  product_none le e =
      let size = length-map ss seen in
      inr (subst HasNoProduct (sym (take-map seen to ss)) (none_of (HasNoProduct (map seen (take to ss))) (IsFirstProduct (map seen (take to ss))) found e h), sym (length-take-le to (map seen ss) (omega arith)))

pub read_ok : (o : Outline) (room : ℕ) (ss : List Symbol) (d : code.Draft) → IsRead o room ss (Ok d) → (c : Text o) × (ss ≡ text_symbols c) × (draft_seen d ≡ text_draft c)
read_ok o room ss d h = (h.0, texts.spelled o room ss h.0 [] h.1 ∙ append-nil (text_symbols h.0), h.2)

pub read_at : (o : Outline) (room : ℕ) (ss : List Symbol) (n : ℕ) → IsRead o room ss (Err (stop.At n)) → StopsAt o ss (drop n ss)
read_at o room ss n h = texts.stops_at o room ss (drop n ss) h.0

module _ (text : List ℕ) (o : Outline) (tokens : List Lexeme) (room : ℕ) (ss : List Symbol) (lexes : Lexes text tokens) (are : ss ≡ map shown tokens) where
  pub draft_is : (d : code.Draft) → IsRead o room ss (Ok d) → HasNoProduct ss → IsDraftOf text o tokens d
  draft_is d h none =
      let r = read_ok o room ss d h in
      let spelled : map shown tokens ≡ text_symbols r.0 = sym are ∙ r.1 in
      let back = spelled_back tokens r.0 spelled in
      record { lexes = lexes; written = r.0; spelled = sym back ∙ spelled; affine = subst HasNoProduct (are ∙ back) none; is_draft = r.2 }

  stops_text : (at place : ℕ) → IsStop o false ss at → place ≡ place_of text tokens at → StopsText text o place
  stops_text at place s e = record { tokens = tokens; lexes = lexes; at = at; stop = stop_back o false tokens at (subst (λ xs. IsStop o false xs at) are s); its_place = e }

  pub product_stops : (d : code.Draft) (at place : ℕ) → IsRead o room ss (Ok d) → IsFirstProduct ss at → place ≡ place_of text tokens at → StopsText text o place
  product_stops d at place h p e = let r = read_ok o room ss d h in stops_text at place (stop_product o ss r.0 at r.1 p) e

  pub symbol_stops : (to at place : ℕ) → IsRead o room ss (Err (stop.At to)) → IsStopBehind (take to ss) at → place ≡ place_of text tokens at → StopsText text o place
  symbol_stops to at place h b e = stops_text at place (stop_at o ss to at (read_at o room ss to h) b) e
