-- Tokens and faults of one text: at most one list of tokens, no fault beside it, and one first fault.
use Rattle.std.proofs.Common.{◌≡◌, ◌⊎◌, inl, inr, ⊎_elim, ℕ, suc, ◌+◌, ◌<◌, ◌≤◌, Bool, true, false, not, ◌||◌, ◌==◌, List, [], ◌∷◌, ◌++◌, length, take, drop, Option, Some, None, MatchResult, IfOk, IfErr, Result, Ok, Err, refl, sym, ap, ◌∙◌, subst, arith, append_assoc, nat_lt}
use Rattle.std.specs.Option.{option_map, is_some}
use Rattle.std.proofs.lemmas.List.{append-nil, length-append, drop_at, take-append-drop, length-take-le}
use Rattle.std.proofs.lemmas.Bool.{and_parts, false≢true, true≢false, not-true, not_from_false, cond-true, cond-false, cond_both, ltb-true, ltb-false, le-ltb, or_left, or_from, and_left}
use Rattle.affc_lex.specs.declared.token.Token.{Token}
use Rattle.affc_lex.specs.declared.token.LexFault.{LexFault}
use Rattle.affc_lex.specs.declared.token.LexFault.TheVariants.{BadByte, OpenComment, LongNumber, Memory}
use Rattle.affc_lex.specs.declared.piece.What.{What}
use Rattle.affc_lex.specs.declared.piece.Spot.{Spot}
use Rattle.affc_lex.specs.declared.piece.Spot.TheVariants.{Fresh}
use Rattle.affc_lex.specs.declared.piece.Found.{Found}
use Rattle.affc_lex.specs.declared.piece.Found.TheVariants.{Piece as a_piece, Bad, Open, Long}
use Rattle.affc_lex.specs.Bytes.{is_digit}
use Rattle.std.specs.List.{list_all}
use Rattle.std.proofs.lemmas.Bool.Decides.{nat_tests}
use Rattle.affc_lex.proofs.Literals.{number_digits}
use Rattle.affc_lex.specs.Pieces.{Piece, stands, text_of, all_stand, spot_behind, next_spot, is_on_directive, is_number}
use Rattle.affc_lex.specs.Lexes.{Lexeme, Lexes, tokens_from, without_scop_lines, lexemes, is_refused, contains_refused}
use Rattle.affc_lex.specs.Faults.{Front, place, spot, RefusedAt, NothingAt, StuckAt, OpenAt, LongAt, IsFault, fault_place, FirstFault, piece_begins}
use Rattle.affc_lex.specs.Reading.{read, first_place}
use Rattle.affc_lex.specs.FoundAt.{FoundAt, IsStuck, OpensHere, LongHere}
use Rattle.affc_lex.specs.Cutting.{Whole, TokensOf, is_piece, Stops, StopsSo, StopsWith, fault_of, earlier}
use Rattle.affc_lex.proofs.Lists.{by_test, later_place}
use Rattle.affc_lex.proofs.Complete.{complete, complete_empty, complete_nothing, complete_stuck, complete_opens, complete_long, literal_some}
use Rattle.affc_lex.proofs.Sound.{sound_at}
use Rattle.affc_lex.proofs.Once.{one_cut, Further}

-- Where no piece stands

-- no pieces go on from a place at which none stands
piece_here : (here : Spot) (what : What) (bytes after : List ℕ) (found : Found) → stands here what bytes after ≡ true → 0 < length (bytes ++ after) → read here (bytes ++ after) ≡ found → is_piece found ≡ true
piece_here here what [] after found standing some found_is =
    let e = complete_empty here what after standing in
    absurd (omega (arith, ap length e.1))
piece_here here what (b ∷ bs) after found standing some found_is = ap is_piece (sym found_is ∙ complete here what b bs after standing)

none_further : (here : Spot) (more : List Piece) (rest after : List ℕ) (found : Found) → all_stand here more after ≡ true → rest ≡ text_of more ++ after → 0 < length rest → read here rest ≡ found → is_piece found ≡ false → more ≡ []
none_further here [] rest after found standing rest_is some found_is none = refl
none_further here (m ∷ ms) rest after found standing rest_is some found_is none =
    let whole : rest ≡ m.bytes ++ (text_of ms ++ after) = rest_is ∙ append_assoc m.bytes (text_of ms) after in
    let parts = and_parts (stands here m.what m.bytes (text_of ms ++ after)) (all_stand (next_spot here m.what m.bytes) ms after) standing in
    absurd (false≢true (sym none ∙ piece_here here m.what m.bytes (text_of ms ++ after) found parts.0 (omega (arith, ap length whole)) (ap (read here) (sym whole) ∙ found_is)))

some_rest : {text : List ℕ} {found : Found} {at : ℕ} (s : Stops text found at) → 0 < length s.front.rest
some_rest s = omega (arith, ap length s.rest_is)

-- two stops of one text are the same
record SameStop (f g : Found) (m n : ℕ) : Type 0 where
  found : f ≡ g
  place_is : m ≡ n

met : (text : List ℕ) (f g : Found) (m n : ℕ) (s : Stops text f m) (t : Stops text g n) → Further Fresh s.front.pieces t.front.pieces s.front.rest t.front.rest → SameStop f g m n
met text f g m n s t further =
    let none = none_further (spot s.front) further.more s.front.rest t.front.rest f further.standing further.rest (some_rest s) s.found_is s.no_piece in
    let pieces : t.front.pieces ≡ s.front.pieces = further.all ∙ ap (λ ms. s.front.pieces ++ ms) none ∙ append-nil s.front.pieces in
    let rests : s.front.rest ≡ t.front.rest = further.rest ∙ ap (λ ms. text_of ms ++ t.front.rest) none in
    record {
      found = sym s.found_is ∙ ap (read (spot s.front)) rests ∙ ap (λ ps. read (spot_behind Fresh ps) t.front.rest) (sym pieces) ∙ t.found_is;
      place_is = s.at_is ∙ ap (λ ps. length (text_of ps)) (sym pieces) ∙ sym t.at_is;
    }

stops_once : (text : List ℕ) (f g : Found) (m n : ℕ) → Stops text f m → Stops text g n → SameStop f g m n
stops_once text f g m n s t =
    ⊎_elim
    (λ further. met text f g m n s t further)
    (λ further. let same = met text g f n m t s further in record { found = sym same.found; place_is = sym same.place_is })
    (one_cut Fresh s.front.pieces t.front.pieces s.front.rest t.front.rest (sym s.front.spelled ∙ t.front.spelled) s.front.standing t.front.standing)

-- a whole text has no stop
pub no_stop : (text : List ℕ) (f : Found) (m : ℕ) → Whole text → Stops text f m → ⊥
no_stop text f m w s =
    ⊎_elim
    (λ (further : Further Fresh w.pieces s.front.pieces [] s.front.rest). absurd (omega (arith, ap length further.rest, length-append (text_of further.more) s.front.rest, some_rest s)))
    (λ (further : Further Fresh s.front.pieces w.pieces s.front.rest []).
    let none = none_further (spot s.front) further.more s.front.rest [] f further.standing further.rest (some_rest s) s.found_is s.no_piece in
    let nothing : s.front.rest ≡ [] = further.rest ∙ ap (λ ms. text_of ms ++ []) none in
    absurd (omega (arith, ap length nothing, some_rest s)))
    (one_cut Fresh w.pieces s.front.pieces [] s.front.rest (append-nil (text_of w.pieces) ∙ sym w.spelled ∙ s.front.spelled) w.standing s.front.standing)

-- a whole text is cut in one way
end_reached : (here : Spot) (more : List Piece) → all_stand here more [] ≡ true → [] ≡ text_of more ++ [] → is_on_directive here ≡ false → more ≡ []
end_reached here [] standing text off = refl
end_reached here (m ∷ ms) standing text off =
    let parts = and_parts (stands here m.what m.bytes (text_of ms ++ [])) (all_stand (next_spot here m.what m.bytes) ms []) standing in
    absurd (lone m.bytes (text_of ms) parts.0 (text ∙ append_assoc m.bytes (text_of ms) []))
  where
    lone : (bytes others : List ℕ) → stands here m.what bytes (others ++ []) ≡ true → [] ≡ bytes ++ (others ++ []) → ⊥
    lone [] others h e = false≢true (sym off ∙ (complete_empty here m.what (others ++ []) h).2)
    lone (b ∷ bs) others h e = absurd (omega (arith, ap length e))

same_pieces : (text : List ℕ) (v w : Whole text) → Further Fresh v.pieces w.pieces [] [] → w.pieces ≡ v.pieces
same_pieces text v w further =
    let none = end_reached (spot_behind Fresh v.pieces) further.more further.standing further.rest (not-true _ v.ended) in
    further.all ∙ ap (λ ms. v.pieces ++ ms) none ∙ append-nil v.pieces

pub whole_once : (text : List ℕ) (v w : Whole text) → v.pieces ≡ w.pieces
whole_once text v w =
    ⊎_elim
    (λ further. sym (same_pieces text v w further))
    (λ further. same_pieces text w v further)
    (one_cut Fresh v.pieces w.pieces [] [] (append-nil (text_of v.pieces) ∙ sym v.spelled ∙ w.spelled ∙ sym (append-nil (text_of w.pieces))) v.standing w.standing)

abbrev pub whole_of : (text : List ℕ) (ts : List Lexeme) → Lexes text ts → Whole text
whole_of text ts l = record { pieces = l.pieces; spelled = l.spelled; standing = l.standing; ended = l.ended }

pub one_list : (text : List ℕ) (ts us : List Lexeme) → Lexes text ts → Lexes text us → ts ≡ us
one_list text ts us l m =
    l.its_tokens ∙ ap (λ ps. without_scop_lines 0 (tokens_from 0 ps)) (whole_once text (whole_of text ts l) (whole_of text us m)) ∙ sym m.its_tokens

-- Refused sequences

place_least : (test : List ℕ → Bool) (before after : List ℕ) → test after ≡ true → 0 < length after → (n : ℕ) × (first_place test (before ++ after) ≡ Some n) × (n ≤ length before)
place_least test [] [] here some = absurd (omega arith)
place_least test [] (b ∷ bs) here some = (0, cond-true _ _ _ here, omega arith)
place_least test (b ∷ bs) after here some =
    let rest = place_least test bs after here some in
    by_test (test (b ∷ (bs ++ after)))
    (λ before. (0, cond-true _ _ _ before, omega arith))
    (λ later. (suc rest.0, cond-false _ _ _ later ∙ ap (option_map suc) rest.1, omega (arith, rest.2)))

-- what a place cuts a text into
record CutAt (test : List ℕ → Bool) (text : List ℕ) (n : ℕ) : Type 0 where
  before : List ℕ
  after : List ℕ
  spelled : text ≡ before ++ after
  passes : test after ≡ true
  long : n ≡ length before

place_cut : (test : List ℕ → Bool) (text : List ℕ) (n : ℕ) → first_place test text ≡ Some n → CutAt test text n
place_cut test [] n e = cc
place_cut test (b ∷ bs) n e =
    by_test (test (b ∷ bs))
    (λ here. let first : n ≡ 0 = same_some 0 n (sym (cond-true _ _ _ here) ∙ e) in record { before = []; after = b ∷ bs; spelled = refl; passes = here; long = first })
    (λ later.
    let further = later_place (first_place test bs) n (sym (cond-false _ _ _ later) ∙ e) in
    let rest = place_cut test bs further.0 further.1 in
    record { before = b ∷ rest.before; after = rest.after; spelled = ap (λ zs. b ∷ zs) rest.spelled; passes = rest.passes; long = further.2 ∙ ap suc rest.long })
  where
    same_some : (i k : ℕ) → ◌≡◌ {A = Option ℕ} (Some i) (Some k) → k ≡ i
    same_some i k h = cc

refused_some : (text : List ℕ) → is_refused text ≡ true → 0 < length text
refused_some [] e = absurd (false≢true e)
refused_some (b ∷ bs) e = omega arith

pub refused_at : (text : List ℕ) (n : ℕ) → first_place is_refused text ≡ Some n → RefusedAt text n
refused_at text n e =
    let cut = place_cut is_refused text n e in
    record { before = cut.before; after = cut.after; spelled = cut.spelled; refused = cut.passes; is_at = cut.long }

pub refused_least : (text : List ℕ) (at : ℕ) → RefusedAt text at → (n : ℕ) × (first_place is_refused text ≡ Some n) × (n ≤ at)
refused_least text at r =
    let least = place_least is_refused r.before r.after r.refused (refused_some r.after r.refused) in
    (least.0, ap (first_place is_refused) r.spelled ∙ least.1, omega (arith, least.2, r.is_at))

pub refused_contained : (text : List ℕ) → contains_refused text ≡ is_some (first_place is_refused text)
refused_contained [] = refl
refused_contained (b ∷ bs) =
    by_test (is_refused (b ∷ bs))
    (λ here. or_left _ _ here ∙ sym (ap is_some (cond-true _ _ _ here)))
    (λ later. ap (λ t. t || contains_refused bs) later ∙ refused_contained bs ∙ mapped (first_place is_refused bs) ∙ sym (ap is_some (cond-false _ _ _ later)))
  where
    mapped : (o : Option ℕ) → is_some o ≡ is_some (option_map suc o)
    mapped None = refl
    mapped (Some n) = refl

-- Faults are stops

-- how a fault lies to the stop that it shows
abbrev Shows : LexFault → ℕ → Found → Type 0
Shows fault at found = (fault ≡ fault_of at found) ⊎ ((n : ℕ) × (found ≡ Long) × (0 < n) × (fault ≡ BadByte (at + n)))

record Shown (text : List ℕ) (fault : LexFault) : Type 0 where
  found : Found
  at : ℕ
  stops : Stops text found at
  shows : Shows fault at found

stop_from : (text : List ℕ) (front : Front text) (found : Found) → 0 < length front.rest → read (spot front) front.rest ≡ found → is_piece found ≡ false → Stops text found (place front)
stop_from text front found some found_is none =
    let cut = first_byte front.rest some in
    record { front = front; first = cut.0; others = cut.1; rest_is = cut.2; found_is = found_is; no_piece = none; at_is = refl }
  where
    first_byte : (xs : List ℕ) → 0 < length xs → (b : ℕ) × (bs : List ℕ) × (xs ≡ b ∷ bs)
    first_byte [] h = absurd (omega arith)
    first_byte (b ∷ bs) h = (b, bs, refl)

nothing_shown : (text : List ℕ) (at : ℕ) → NothingAt text at → Shown text (BadByte at)
nothing_shown text at n =
    let found_is : read (spot n.front) n.front.rest ≡ Bad 0 = ap (read (spot n.front)) n.goes_on ∙ complete_nothing (spot n.front) n.byte n.after (subst (λ zs. not (piece_begins (spot n.front) zs) ≡ true) n.goes_on n.nothing) in
    let same : at ≡ place n.front + 0 = omega (arith, n.is_at) in
    record { found = Bad 0; at = place n.front; stops = stop_from text n.front (Bad 0) (omega (arith, ap length n.goes_on)) found_is refl; shows = inl (ap BadByte same) }

stuck_shown : (text : List ℕ) (at : ℕ) → StuckAt text at → Shown text (BadByte at)
stuck_shown text at s =
    let here = spot s.front in
    let some : 0 < length s.literal = literal_some s.literal s.after s.longest in
    let more : 0 < length s.front.rest = omega (arith, ap length s.goes_on, length-append s.literal s.after) in
    ⊎_elim
    (λ (bad : read here (s.literal ++ s.after) ≡ Bad (length s.literal)).
    record {
      found = Bad (length s.literal);
      at = place s.front;
      stops = stop_from text s.front (Bad (length s.literal)) more (ap (read here) s.goes_on ∙ bad) refl;
      shows = inl (ap BadByte s.is_at);
    })
    (λ (long : read here (s.literal ++ s.after) ≡ Long).
    record {
      found = Long;
      at = place s.front;
      stops = stop_from text s.front Long more (ap (read here) s.goes_on ∙ long) refl;
      shows = inr (length s.literal, refl, some, ap BadByte s.is_at);
    })
    (complete_stuck here s.literal s.after s.longest s.stuck)

open_stop : (text : List ℕ) (at : ℕ) (o : OpenAt text at) → Stops text Open (place o.front)
open_stop text at o =
    let here : OpensHere o.front.rest = record { inside = o.inside; opens = o.opens; open_end = o.open_end } in
    stop_from text o.front Open (omega (arith, ap length o.opens)) (complete_opens (spot o.front) o.front.rest here) refl

open_shown : (text : List ℕ) (at : ℕ) → OpenAt text at → Shown text (OpenComment at)
open_shown text at o = record { found = Open; at = place o.front; stops = open_stop text at o; shows = inl (ap OpenComment o.is_at) }

number_some : (ds : List ℕ) → is_number ds ≡ true → 0 < length ds
number_some [] e = absurd (false≢true e)
number_some (d ∷ ds) e = omega arith

long_stop : (text : List ℕ) (at : ℕ) (l : LongAt text at) → Stops text Long (place l.front)
long_stop text at l =
    let here : LongHere l.front.rest = record { digits = l.digits; after = l.after; begins_so = l.begins_so; number = l.number; long = l.long } in
    stop_from text l.front Long (omega (arith, ap length l.begins_so, length-append l.digits l.after, number_some l.digits l.number)) (complete_long (spot l.front) l.front.rest here) refl

long_shown : (text : List ℕ) (at : ℕ) → LongAt text at → Shown text (LongNumber at)
long_shown text at l = record { found = Long; at = place l.front; stops = long_stop text at l; shows = inl (ap LongNumber l.is_at) }

-- a fault is a refused sequence, or shows a stop
shown : (text : List ℕ) (fault : LexFault) → IsFault text fault → ((at : ℕ) × RefusedAt text at × (fault ≡ BadByte at)) ⊎ Shown text fault
shown text (BadByte at) f = ⊎_elim (λ r. inl (at, r, refl)) (λ g. inr (⊎_elim (nothing_shown text at) (stuck_shown text at) g)) f
shown text (OpenComment at) f = inr (open_shown text at f)
shown text (LongNumber at) f = inr (long_shown text at f)
shown text Memory f = absurd f

-- a text that has tokens has no fault
pub no_fault : (text : List ℕ) (ts : List Lexeme) (fault : LexFault) → Lexes text ts → IsFault text fault → ⊥
no_fault text ts fault l f =
    ⊎_elim
    (λ (r : (at : ℕ) × RefusedAt text at × (fault ≡ BadByte at)).
    let least = refused_least text r.0 r.1 in
    true≢false (sym (refused_contained text ∙ ap is_some least.1) ∙ not-true _ l.unrefused))
    (λ (s : Shown text fault). no_stop text s.found s.at (whole_of text ts l) s.stops)
    (shown text fault f)

-- The fault that stops the pieces

-- it stands in the text
stop_is_fault : (text : List ℕ) (found : Found) (at : ℕ) → Stops text found at → IsFault text (fault_of at found) ⊎ (is_piece found ≡ true)
stop_is_fault text found at s = of_found found s.found_is (subst (FoundAt (spot s.front) s.front.rest) s.found_is (sound_at (spot s.front) s.front.rest (some_rest s)))
  where
    of_found : (f : Found) → read (spot s.front) s.front.rest ≡ f → FoundAt (spot s.front) s.front.rest f → IsFault text (fault_of at f) ⊎ (is_piece f ≡ true)
    of_found (a_piece what n) e h = inr refl
    of_found Open e h = inl (record { front = s.front; inside = h.inside; opens = h.opens; open_end = h.open_end; is_at = s.at_is })
    of_found Long e h = inl (record { front = s.front; digits = h.digits; after = h.after; begins_so = h.begins_so; number = h.number; long = h.long; is_at = s.at_is })
    of_found (Bad n) e h =
        ⊎_elim
        (λ (no : (n ≡ 0) × (not (piece_begins (spot s.front) s.front.rest) ≡ true)).
        inl (inr (inl (record { front = s.front; byte = s.first; after = s.others; goes_on = s.rest_is; nothing = no.1; is_at = omega (arith, no.0, s.at_is) }))))
        (λ (stuck : IsStuck n s.front.rest).
        inl (inr (inr (record {
          front = s.front;
          literal = take n s.front.rest;
          after = drop n s.front.rest;
          goes_on = sym (take-append-drop n s.front.rest);
          longest = stuck.longest;
          stuck = stuck.stuck;
          is_at = omega (arith, s.at_is, length-take-le n s.front.rest stuck.within);
        }))))
        h

-- and no other fault that shows a stop stands before it
stop_is_first : (text : List ℕ) (found : Found) (at : ℕ) (other : LexFault) → Stops text found at → Shown text other → fault_place (fault_of at found) ≤ fault_place other
stop_is_first text found at other s o =
    let same = stops_once text found o.found at o.at s o.stops in
    ⊎_elim
    (λ (e : other ≡ fault_of o.at o.found).
    let equal : fault_of at found ≡ other = ap (λ k. fault_of k found) same.place_is ∙ ap (fault_of o.at) same.found ∙ sym e in
    omega (arith, ap fault_place equal))
    (λ (e : (n : ℕ) × (o.found ≡ Long) × (0 < n) × (other ≡ BadByte (o.at + n))).
    let here : fault_place (fault_of at found) ≡ at = ap (λ g. fault_place (fault_of at g)) (same.found ∙ e.1) in
    omega (arith, here, same.place_is, ap fault_place e.3))
    o.shows

-- The first fault

abbrev FirstOf : List ℕ → LexFault → Type 0
FirstOf text fault = IsFault text fault × ((other : LexFault) → IsFault text other → fault_place fault ≤ fault_place other)

first_from : (text : List ℕ) (fault : LexFault) → FirstOf text fault → FirstFault text fault
first_from text (BadByte at) h = h
first_from text (OpenComment at) h = h
first_from text (LongNumber at) h = h
first_from text Memory h = tt

some_number : (m n : ℕ) → ◌≡◌ {A = Option ℕ} (Some m) (Some n) → m ≡ n
some_number m n e = cc

-- what stands at the first refused sequence or behind it
refused_before : (text : List ℕ) (n : ℕ) (at : ℕ) → first_place is_refused text ≡ Some n → RefusedAt text at → n ≤ at
refused_before text n at e r =
    let least = refused_least text at r in
    omega (arith, some_number least.0 n (sym least.1 ∙ e), least.2)

first_in : (text : List ℕ) (fault : LexFault) (o : Option ℕ) → first_place is_refused text ≡ o → StopsSo text fault → FirstOf text (earlier fault o)
first_in text fault None e s =
    let stands : IsFault text fault = ⊎_elim (λ h. subst (IsFault text) (sym s.fault_is) h) (λ h. absurd (false≢true (sym s.stops.no_piece ∙ h))) (stop_is_fault text s.found s.at s.stops) in (
      stands,
      λ other f.
          ⊎_elim
          (λ (r : (at : ℕ) × RefusedAt text at × (other ≡ BadByte at)). absurd (none_is (refused_least text r.0 r.1).0 (sym e ∙ (refused_least text r.0 r.1).1)))
          (λ (t : Shown text other). omega (arith, ap fault_place s.fault_is, stop_is_first text s.found s.at other s.stops t))
          (shown text other f),
    )
  where
    none_is : (n : ℕ) → ◌≡◌ {A = Option ℕ} None (Some n) → ⊥
    none_is n h = cc
first_in text fault (Some n) e s =
    let stands : IsFault text fault = ⊎_elim (λ h. subst (IsFault text) (sym s.fault_is) h) (λ h. absurd (false≢true (sym s.stops.no_piece ∙ h))) (stop_is_fault text s.found s.at s.stops) in
    cond_both (nat_lt n (fault_place fault)) (BadByte n) fault (FirstOf text)
    (λ before. (
      inl (refused_at text n e),
      λ other f.
          ⊎_elim
          (λ (r : (at : ℕ) × RefusedAt text at × (other ≡ BadByte at)). omega (arith, refused_before text n r.0 e r.1, ap fault_place r.2))
          (λ (t : Shown text other). omega (arith, ltb-true n (fault_place fault) before, ap fault_place s.fault_is, stop_is_first text s.found s.at other s.stops t))
          (shown text other f),
    ))
    (λ behind. (
      stands,
      λ other f.
          ⊎_elim
          (λ (r : (at : ℕ) × RefusedAt text at × (other ≡ BadByte at)). omega (arith, ltb-false n (fault_place fault) behind, refused_before text n r.0 e r.1, ap fault_place r.2))
          (λ (t : Shown text other). omega (arith, ap fault_place s.fault_is, stop_is_first text s.found s.at other s.stops t))
          (shown text other f),
    ))

memory_stays : (o : Option ℕ) → earlier Memory o ≡ Memory
memory_stays None = refl
memory_stays (Some n) = cond-false (nat_lt n 0) (BadByte n) Memory (le-ltb n 0 (omega arith))

-- the answer where the pieces stop
pub first_fault : (text : List ℕ) (fault : LexFault) → StopsWith text fault → FirstFault text (earlier fault (first_place is_refused text))
first_fault text (BadByte at) s = first_from text _ (first_in text (BadByte at) (first_place is_refused text) refl s)
first_fault text (OpenComment at) s = first_from text _ (first_in text (OpenComment at) (first_place is_refused text) refl s)
first_fault text (LongNumber at) s = first_from text _ (first_in text (LongNumber at) (first_place is_refused text) refl s)
first_fault text Memory s = subst (FirstFault text) (sym (memory_stays (first_place is_refused text))) tt

-- and where they don't
pub refused_first : (text : List ℕ) (n : ℕ) → Whole text → first_place is_refused text ≡ Some n → FirstFault text (BadByte n)
refused_first text n w e = (
  inl (refused_at text n e),
  λ other f.
      ⊎_elim
      (λ (r : (at : ℕ) × RefusedAt text at × (other ≡ BadByte at)). omega (arith, refused_before text n r.0 e r.1, ap fault_place r.2))
      (λ (t : Shown text other). absurd (no_stop text t.found t.at w t.stops))
      (shown text other f),
)

-- the tokens
pub lexes_from : (text : List ℕ) (all those : List Token) → TokensOf text all → first_place is_refused text ≡ None → lexemes text those ≡ without_scop_lines 0 (lexemes text all) → Lexes text (lexemes text those)
lexes_from text all those t e those_are = record {
  pieces = t.whole.pieces;
  spelled = t.whole.spelled;
  standing = t.whole.standing;
  ended = t.whole.ended;
  unrefused = not_from_false _ (refused_contained text ∙ ap is_some e);
  its_tokens = those_are ∙ ap (without_scop_lines 0) t.tokens_are;
}

-- what an answer by these two clauses says of a text that has tokens
pub only_these : {A : Type 0} (text : List ℕ) (seen : A → List Lexeme) (result : Result A LexFault) → IfOk result (λ v. Lexes text (seen v)) → IfErr result (FirstFault text) → (ts : List Lexeme) → Lexes text ts → MatchResult result (λ v. seen v ≡ ts) (λ fault. fault ≡ Memory)
only_these text seen (Ok v) ok err ts l = one_list text (seen v) ts ok l
only_these text seen (Err (BadByte at)) ok err ts l = absurd (no_fault text ts (BadByte at) l err.0)
only_these text seen (Err (OpenComment at)) ok err ts l = absurd (no_fault text ts (OpenComment at) l err.0)
only_these text seen (Err (LongNumber at)) ok err ts l = absurd (no_fault text ts (LongNumber at) l err.0)
only_these text seen (Err Memory) ok err ts l = refl

-- Two faults at one place are the same

-- what stands at the place of a refused sequence
refused_rest : (text : List ℕ) (at : ℕ) → RefusedAt text at → (front : Front text) → at ≡ place front → is_refused front.rest ≡ true
refused_rest text at r front same =
    let rest : r.after ≡ front.rest =
    sym (drop_at r.before r.after (length r.before) refl) ∙ ap (drop (length r.before)) (sym r.spelled) ∙ ap (λ n. drop n text) (sym r.is_at ∙ same) ∙ ap (drop (place front)) front.spelled ∙ drop_at (text_of front.pieces) front.rest (place front) refl in
    ap is_refused (sym rest) ∙ r.refused

number_not_refused : (ds after : List ℕ) → is_number ds ≡ true → is_refused (ds ++ after) ≡ false
number_not_refused [] after e = absurd (false≢true e)
number_not_refused (d ∷ ds) after e =
    let digit : is_digit d ≡ true = (and_parts (is_digit d) (list_all is_digit ds) (number_digits (d ∷ ds) e)).0 in
    let no_backslash : (92 == d) ≡ false = grind (arith, nat_tests) in
    let no_question : (63 == d) ≡ false = grind (arith, nat_tests) in
    or_from _ _ (or_from _ _ (and_left _ _ no_backslash) (and_left _ _ no_backslash)) (and_left _ _ no_question)

-- the stop that a bad byte shows, unless it begins a refused sequence
bad_kind : (at k : ℕ) (found : Found) → Shows (BadByte at) k found → ((n : ℕ) × (found ≡ Bad n)) ⊎ ((found ≡ Long) × (k < at))
bad_kind at k found h =
    ⊎_elim
    (λ (e : BadByte at ≡ fault_of k found). inl (of_found found e))
    (λ (e : (n : ℕ) × (found ≡ Long) × (0 < n) × (BadByte at ≡ BadByte (k + n))). inr (e.1, omega (arith, e.2, ap fault_place e.3)))
    h
  where
    of_found : (f : Found) → BadByte at ≡ fault_of k f → (n : ℕ) × (f ≡ Bad n)
    of_found (Bad n) e = (n, refl)
    of_found (a_piece what n) e = absurd (cc)
    of_found Open e = absurd (cc)
    of_found Long e = absurd (cc)

bad_shown : (text : List ℕ) (at : ℕ) → NothingAt text at ⊎ StuckAt text at → Shown text (BadByte at)
bad_shown text at g = ⊎_elim (nothing_shown text at) (stuck_shown text at) g

apart_bad_open : (n : ℕ) (found : Found) → found ≡ Bad n → found ≡ Open → ⊥
apart_bad_open n found e h = cc

apart_bad_long : (n : ℕ) (found : Found) → found ≡ Bad n → found ≡ Long → ⊥
apart_bad_long n found e h = cc

apart_long_open : (found : Found) → found ≡ Long → found ≡ Open → ⊥
apart_long_open found e h = cc

bad_and_open : (text : List ℕ) (at : ℕ) → IsFault text (BadByte at) → OpenAt text at → ⊥
bad_and_open text at f o =
    ⊎_elim
    (λ (r : RefusedAt text at). false≢true (sym (ap is_refused o.opens) ∙ refused_rest text at r o.front o.is_at))
    (λ (g : NothingAt text at ⊎ StuckAt text at).
    let s = bad_shown text at g in
    let same = stops_once text s.found Open s.at (place o.front) s.stops (open_stop text at o) in
    ⊎_elim (λ (b : (n : ℕ) × (s.found ≡ Bad n)). apart_bad_open b.0 s.found b.1 same.found) (λ (l : (s.found ≡ Long) × (s.at < at)). apart_long_open s.found l.0 same.found) (bad_kind at s.at s.found s.shows))
    f

bad_and_long : (text : List ℕ) (at : ℕ) → IsFault text (BadByte at) → LongAt text at → ⊥
bad_and_long text at f l =
    ⊎_elim
    (λ (r : RefusedAt text at). false≢true (sym (number_not_refused l.digits l.after l.number) ∙ sym (ap is_refused l.begins_so) ∙ refused_rest text at r l.front l.is_at))
    (λ (g : NothingAt text at ⊎ StuckAt text at).
    let s = bad_shown text at g in
    let same = stops_once text s.found Long s.at (place l.front) s.stops (long_stop text at l) in
    ⊎_elim
    (λ (b : (n : ℕ) × (s.found ≡ Bad n)). apart_bad_long b.0 s.found b.1 same.found)
    (λ (h : (s.found ≡ Long) × (s.at < at)). absurd (omega (arith, h.1, same.place_is, l.is_at)))
    (bad_kind at s.at s.found s.shows))
    f

open_and_long : (text : List ℕ) (at : ℕ) → OpenAt text at → LongAt text at → ⊥
open_and_long text at o l =
    let same = stops_once text Open Long (place o.front) (place l.front) (open_stop text at o) (long_stop text at l) in
    apart_long_open Long refl (sym same.found)

-- two faults of a text at one place are the same
pub same_fault : (text : List ℕ) (f g : LexFault) → IsFault text f → IsFault text g → fault_place f ≡ fault_place g → f ≡ g
same_fault text Memory g f_is g_is e = absurd f_is
same_fault text (BadByte a) Memory f_is g_is e = absurd g_is
same_fault text (BadByte a) (BadByte b) f_is g_is e = ap BadByte e
same_fault text (BadByte a) (OpenComment b) f_is g_is e = absurd (bad_and_open text a f_is (subst (OpenAt text) (sym e) g_is))
same_fault text (BadByte a) (LongNumber b) f_is g_is e = absurd (bad_and_long text a f_is (subst (LongAt text) (sym e) g_is))
same_fault text (OpenComment a) Memory f_is g_is e = absurd g_is
same_fault text (OpenComment a) (BadByte b) f_is g_is e = absurd (bad_and_open text b g_is (subst (OpenAt text) e f_is))
same_fault text (OpenComment a) (OpenComment b) f_is g_is e = ap OpenComment e
same_fault text (OpenComment a) (LongNumber b) f_is g_is e = absurd (open_and_long text a f_is (subst (LongAt text) (sym e) g_is))
same_fault text (LongNumber a) Memory f_is g_is e = absurd g_is
same_fault text (LongNumber a) (BadByte b) f_is g_is e = absurd (bad_and_long text b g_is (subst (LongAt text) e f_is))
same_fault text (LongNumber a) (OpenComment b) f_is g_is e = absurd (open_and_long text a (subst (OpenAt text) (sym e) g_is) f_is)
same_fault text (LongNumber a) (LongNumber b) f_is g_is e = ap LongNumber e
