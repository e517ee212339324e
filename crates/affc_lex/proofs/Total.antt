-- Each text has tokens or a fault: its pieces go to its end, or stop.
use Rattle.std.proofs.Common.{◌≡◌, ◌⊎◌, inl, inr, ℕ, zero, suc, ◌+◌, ◌<◌, ◌≤◌, Bool, true, false, List, length, drop, Option, Some, None, refl, ap, ◌∙◌, arith}
use Rattle.std.specs.Prelude.{nat_lt, if◌then◌else◌}
use Rattle.std.specs.Option.{is_some}
use Rattle.std.proofs.lemmas.List.{length-drop}
use Rattle.std.proofs.lemmas.Bool.{not_from_false}
use Rattle.std.proofs.lemmas.Bool.Decides.{nat_tests}
use Rattle.affc_lex.specs.declared.token.Token.{Token}
use Rattle.affc_lex.specs.declared.token.LexFault.{LexFault}
use Rattle.affc_lex.specs.declared.token.LexFault.TheVariants.{BadByte, OpenComment, LongNumber, Memory}
use Rattle.affc_lex.specs.declared.piece.Spot.{Spot}
use Rattle.affc_lex.specs.declared.piece.Spot.TheVariants.{Fresh}
use Rattle.affc_lex.specs.declared.piece.Found.{Found}
use Rattle.affc_lex.specs.declared.piece.Found.TheVariants.{Piece as a_piece, Bad, Open, Long}
use Rattle.affc_lex.specs.Pieces.{is_on_directive}
use Rattle.affc_lex.specs.Lexes.{Lexeme, Lexes, tokens_from, without_scop_lines, is_refused, contains_refused}
use Rattle.affc_lex.specs.Faults.{IsFault, fault_place, FirstFault}
use Rattle.affc_lex.specs.FoundAt.{FoundAt}
use Rattle.affc_lex.specs.Reading.{read, first_place}
use Rattle.affc_lex.specs.Cutting.{Whole, StopsSo, fault_of, earlier, is_piece}
use Rattle.affc_lex.proofs.Cuts.{Cut, cut_start, cut_further, cut_ended, cut_line_ended, cut_stops}
use Rattle.affc_lex.proofs.Exact.{refused_at, refused_contained, first_fault}
use Rattle.affc_lex.proofs.Sound.{sound_at}

-- ---- Pieces up to the end, or up to a place at which they stop

-- the place at which no piece stands, with what is found there
abbrev Halts : List ℕ → Type 0
Halts text = (at : ℕ) × (found : Found) × (is_piece found ≡ false) × StopsSo text (fault_of at found)

at_the_end : (text : List ℕ) (at : ℕ) (spot : Spot) (tokens : List Token) → Cut text at spot tokens → length text ≤ at → Whole text
at_the_end text at spot tokens cut past = by (is_on_directive spot) refl
  where
    by : (b : Bool) → is_on_directive spot ≡ b → Whole text
    by true on = (cut_line_ended text at spot tokens cut past on).whole
    by false off = (cut_ended text at spot tokens cut past off).whole

cut_all : (fuel : ℕ) (text : List ℕ) (at : ℕ) (spot : Spot) (tokens : List Token) → Cut text at spot tokens → length text ≤ at + fuel → Whole text ⊎ Halts text
cut_all zero text at spot tokens cut few = inl (at_the_end text at spot tokens cut (omega arith))
cut_all (suc fuel) text at spot tokens cut few =
    by (nat_lt at (length text)) refl (λ next longer n c more. cut_all fuel text (at + n) next longer c more)
  where
    inside : (m n : ℕ) → nat_lt m n ≡ true → m < n
    inside m n e = grind (arith, nat_tests)

    past : (m n : ℕ) → nat_lt m n ≡ false → n ≤ m
    past m n e = grind (arith, nat_tests)

    stopped : (found : Found) → read spot (drop at text) ≡ found → at < length text → is_piece found ≡ false → Whole text ⊎ Halts text
    stopped found q lt none = inr (at, found, none, record { found = found; at = at; stops = cut_stops text at spot tokens found cut lt q none; fault_is = refl })

    here : at < length text → ((next : Spot) (longer : List Token) (n : ℕ) → Cut text (at + n) next longer → length text ≤ at + n + fuel → Whole text ⊎ Halts text) → (found : Found) → read spot (drop at text) ≡ found → FoundAt spot (drop at text) found → Whole text ⊎ Halts text
    here lt again (a_piece what n) q f = again _ _ n (cut_further text at spot tokens what n cut f) (omega (arith, f.some))
    here lt again (Bad n) q f = stopped (Bad n) q lt refl
    here lt again Open q f = stopped Open q lt refl
    here lt again Long q f = stopped Long q lt refl

    by : (t : Bool) → nat_lt at (length text) ≡ t → ((next : Spot) (longer : List Token) (n : ℕ) → Cut text (at + n) next longer → length text ≤ at + n + fuel → Whole text ⊎ Halts text) → Whole text ⊎ Halts text
    by true e again =
        let lt = inside at (length text) e in
        here lt again (read spot (drop at text)) refl (sound_at spot (drop at text) (omega (arith, lt, length-drop at text)))
    by false e again = inl (at_the_end text at spot tokens cut (past at (length text) e))

-- ---- Tokens or a fault

abbrev HasTokens : List ℕ → Type 0
HasTokens text = (ts : List Lexeme) × Lexes text ts

abbrev HasFault : List ℕ → Type 0
HasFault text = (fault : LexFault) × IsFault text fault

a_fault : (text : List ℕ) (fault : LexFault) → FirstFault text fault → (fault ≡ Memory → ⊥) → HasFault text
a_fault text (BadByte at) h other = (BadByte at, h.0)
a_fault text (OpenComment at) h other = (OpenComment at, h.0)
a_fault text (LongNumber at) h other = (LongNumber at, h.0)
a_fault text Memory h other = absurd (other refl)

no_memory : (fault : LexFault) (o : Option ℕ) → (fault ≡ Memory → ⊥) → earlier fault o ≡ Memory → ⊥
no_memory fault None other e = other e
no_memory fault (Some at) other e = by (nat_lt at (fault_place fault)) e
  where
    by : (b : Bool) → (if b then BadByte at else fault) ≡ Memory → ⊥
    by true e = cc
    by false e = other e

halted : (text : List ℕ) → Halts text → HasFault text
halted text h = by h.0 h.1 h.2 h.3
  where
    by : (at : ℕ) (found : Found) → is_piece found ≡ false → StopsSo text (fault_of at found) → HasFault text
    by at (a_piece what n) none s = absurd (cc)
    by at (Bad n) none s = a_fault text _ (first_fault text (BadByte (at + n)) s) (no_memory (BadByte (at + n)) (first_place is_refused text) (λ e. cc))
    by at Open none s = a_fault text _ (first_fault text (OpenComment at) s) (no_memory (OpenComment at) (first_place is_refused text) (λ e. cc))
    by at Long none s = a_fault text _ (first_fault text (LongNumber at) s) (no_memory (LongNumber at) (first_place is_refused text) (λ e. cc))

whole_text : (text : List ℕ) → Whole text → HasTokens text ⊎ HasFault text
whole_text text w = by (first_place is_refused text) refl
  where
    by : (o : Option ℕ) → first_place is_refused text ≡ o → HasTokens text ⊎ HasFault text
    by None q = inl (
      without_scop_lines 0 (tokens_from 0 w.pieces),
      record {
        pieces = w.pieces;
        spelled = w.spelled;
        standing = w.standing;
        ended = w.ended;
        unrefused = not_from_false (contains_refused text) (refused_contained text ∙ ap is_some q);
        its_tokens = refl;
      },
    )
    by (Some n) q = inr (BadByte n, inl (refused_at text n q))

pub tokens_or_fault : (text : List ℕ) → HasTokens text ⊎ HasFault text
tokens_or_fault text = by (cut_all (length text) text 0 Fresh _ (cut_start text) (omega arith))
  where
    by : Whole text ⊎ Halts text → HasTokens text ⊎ HasFault text
    by (inl w) = whole_text text w
    by (inr h) = inr (halted text h)
