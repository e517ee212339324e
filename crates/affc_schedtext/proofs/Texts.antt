-- Reading a text of the grammar: one text at most has given symbols, a text is read where the room is enough, and where reading stops no text goes on.
use Rattle.std.proofs.Common.{◌≡◌, ℕ, ◌≤◌, List, [], ◌∷◌, ◌++◌, length, Ok, Err, refl, sym, ap, ◌∙◌, subst, arith, append-nil}
use Rattle.affc_grammar.specs.Grammar.{Symbol}
use Rattle.affc_grammar.specs.Reader.{At, Deep, Read}
use Rattle.affc_grammar.proofs.Done.{IsDone}
use Rattle.affc_schedtext.specs.Outline.{Outline}
use Rattle.affc_schedtext.specs.Grammar.{Text, text_symbols, Refuses, StopsAt}
use Rattle.affc_schedtext.specs.Reading.{read_text}
use Rattle.affc_schedtext.proofs.TextRules.{text_rule}
use Rattle.affc_schedtext.proofs.Complete.{text_gets}
use Rattle.affc_schedtext.proofs.Roomy.{roomy_text}

module _ (o : Outline) where
  done_ok : (c : Text o) (r : Read Symbol (Text o)) → IsDone c [] r → (r ≡ Err Deep → ⊥) → r ≡ Ok (c, [])
  done_ok c (Ok x) d n = ap Ok d
  done_ok c (Err (At ts)) d n = absurd d
  done_ok c (Err Deep) d n = absurd (n refl)

  pub text_read : (c : Text o) (room : ℕ) → length (text_symbols c) ≤ room → read_text o room (text_symbols c) ≡ Ok (c, [])
  text_read c room le = done_ok c (read_text o room (text_symbols c)) (text_gets o room c).is ((roomy_text o room).never (text_symbols c) le)

  -- one text at most has given symbols
  pub one_text : (a b : Text o) → text_symbols a ≡ text_symbols b → a ≡ b
  one_text a b e =
      let room = length (text_symbols a) in
      let left : read_text o room (text_symbols a) ≡ Ok (a, []) = text_read a room (omega arith) in
      let right : read_text o room (text_symbols b) ≡ Ok (b, []) = text_read b room (omega (arith, ap length e)) in
      let both : ◌≡◌ {A = Read Symbol (Text o)} (Ok (a, [])) (Ok (b, [])) = sym left ∙ ap (read_text o room) e ∙ right in
      let pair : ◌≡◌ {A = Text o × List Symbol} (a, []) (b, []) = cc in
      ap (λ p. p.0) pair

  pub spelled : (room : ℕ) (ts : List Symbol) (c : Text o) (rest : List Symbol) → read_text o room ts ≡ Ok (c, rest) → ts ≡ text_symbols c ++ rest
  spelled room ts c rest e = (text_rule o room).sound ts c rest e

  not_done : (c : Text o) (r : Read Symbol (Text o)) (rest : List Symbol) → r ≡ Err (At rest) → IsDone c [] r → ⊥
  not_done c r rest e d = subst (IsDone c []) e d

  refuses : (room : ℕ) (ts before rest : List Symbol) → ts ≡ before ++ rest → read_text o room ts ≡ Err (At rest) → Refuses o before rest
  refuses room ts before [] is e = λ c spelled.
      not_done c (read_text o room (text_symbols c)) [] (ap (read_text o room) (spelled ∙ sym (append-nil before) ∙ sym is) ∙ e) (text_gets o room c).is
  refuses room ts before (x ∷ others) is e = λ c tail spelled.
      not_done c (read_text o room (text_symbols c)) (x ∷ tail) (ap (read_text o room) spelled ∙ (text_rule o room).reader.at_same before x others tail [] (ap (read_text o room) (sym is) ∙ e)) (text_gets o room c).is

  pub stops_at : (room : ℕ) (ts rest : List Symbol) → read_text o room ts ≡ Err (At rest) → StopsAt o ts rest
  stops_at room ts rest e =
      let v = (text_rule o room).started ts rest e in
      record { before = v.0; split = v.1; begins = (v.2, v.3, v.4); refuses = refuses room ts v.0 rest v.1 e }
