-- Reading a term token by token. `end` is the number behind the last token of the text.
use Rattle.std.specs.Prelude.{ℕ, zero, suc, ◌-◌, Bool, List, [], ◌∷◌, length, codes, Option, Some, None, Ok, Err, reverse, if◌then◌else◌}
use Rattle.affc_grammar.specs.Grammar.{Symbol}
use Rattle.affc_grammar.specs.Draft.{IxDraft, literal, name, negated, product, grouped}
use Rattle.affc_grammar.specs.Reader.{At, Deep, Read, Reader}
use Rattle.affc_grammar.specs.Reading.{this_mark, any_word, sum_sign}
use Rattle.affc_syntax.specs.Ahead.{number_value}
use Rattle.affc_syntax.specs.IxReading.{joined}
use Rattle.affc_schedtext.specs.declared.reading.Bracket.{Bracket}
use Rattle.affc_schedtext.specs.declared.reading.Place.{Place}
use Rattle.affc_schedtext.specs.declared.reading.Place.TheVariants.{Before, Signed, Behind}
use Rattle.affc_schedtext.specs.declared.reading.Reading as code
use Rattle.affc_schedtext.specs.declared.reading.Turned as code_turned
use Rattle.affc_schedtext.specs.declared.reading.Turned.TheVariants as t
use Rattle.affc_schedtext.specs.Outline.{Scope}
use Rattle.affc_schedtext.specs.Grammar.{is_seen}
use Rattle.affc_schedtext.specs.Terms.{top, below, made_all}

pub record Reading : Type 0 where
  pub place : Place
  -- how many brackets may still be opened
  pub room : ℕ
  -- the open brackets, the last one first
  pub opened : List Bracket
  -- the operands that are read, the last one first
  pub operands : List IxDraft

pub data Turned : Type 0 where
  going : Reading → Turned
  -- the term that is read so doesn't go on with the token
  off : Reading → Turned
  deep : Turned

-- ---- Operands that are put together

abbrev pub negative : Option ℕ → List IxDraft → List IxDraft
negative None es = es
negative (Some at) es = negated at (top es) ∷ below es

abbrev pub times : Option ℕ → List IxDraft → List IxDraft
times None es = es
times (Some at) es = product at (top (below es)) (top es) ∷ below (below es)

abbrev pub plus : Option Bool → List IxDraft → List IxDraft
plus None es = es
plus (Some is_plus) es = joined is_plus (top (below es)) (top es) ∷ below (below es)

-- with the factor whose last operand is read
abbrev pub factored : (star minus : Option ℕ) → List IxDraft → List IxDraft
factored star minus es = times star (negative minus es)

-- ---- One token

abbrev pub before : Reading → Option Bool → Option ℕ → List IxDraft → Reading
before r sign star es = record { place = Before sign star; room = r.room; opened = r.opened; operands = es }

abbrev pub behind : Reading → Option Bool → List IxDraft → Reading
behind r sign es = record { place = Behind sign; room = r.room; opened = r.opened; operands = es }

-- behind a "(", where so many brackets may be opened
abbrev pub opened_in : (room : ℕ) → ℕ → Option Bool → (star minus : Option ℕ) → Reading → Turned
opened_in zero at sign star minus r = deep
opened_in (suc room) at sign star minus r =
    going (record { place = Before None None; room = room; opened = record { at = at; sign = sign; star = star; minus = minus; room = suc room } ∷ r.opened; operands = r.operands })

-- by what the token is as a number, a word and a "("
abbrev pub atom_turn : ℕ → Option Bool → (star minus : Option ℕ) → Reading → Option ℕ → Option (List ℕ) → Option (Unit {0}) → Turned
atom_turn at sign star minus r (Some n) word bracket = going (behind r sign (factored star minus (literal at n ∷ r.operands)))
atom_turn at sign star minus r None (Some w) bracket = going (behind r sign (factored star minus (name at w ∷ r.operands)))
atom_turn at sign star minus r None None (Some k) = opened_in r.room at sign star minus r
atom_turn at sign star minus r None None None = off r

abbrev pub at_atom : ℕ → Option Bool → (star minus : Option ℕ) → Reading → Symbol → Turned
at_atom at sign star minus r s = atom_turn at sign star minus r (number_value s) (any_word s) (this_mark (codes "(") s)

abbrev pub before_turn : ℕ → Option Bool → (star : Option ℕ) → Reading → Option (Unit {0}) → Turned → Turned
before_turn at sign star r (Some k) other = going (record { place = Signed sign star at; room = r.room; opened = r.opened; operands = r.operands })
before_turn at sign star r None other = other

-- behind a bracket with these operands, and a sum that ends there
abbrev pub grouped_behind : Option Bool → Bracket → List Bracket → List IxDraft → Reading
grouped_behind sign o os es = record { place = Behind o.sign; room = o.room; opened = os; operands = factored o.star o.minus (grouped o.at (top (plus sign es)) ∷ below (plus sign es)) }

-- by the brackets that are open, and whether the token is a ")"
abbrev pub closing_turn : Option Bool → Reading → List Bracket → Option (Unit {0}) → Turned
closing_turn sign r [] k = off r
closing_turn sign r (o ∷ os) None = off r
closing_turn sign r (o ∷ os) (Some k) = going (grouped_behind sign o os r.operands)

-- by whether it is a "*", which sign it is, and whether it is a ")"
abbrev pub behind_turn : ℕ → Option Bool → Reading → Option (Unit {0}) → Option Bool → Option (Unit {0}) → Turned
behind_turn at sign r (Some k) o c = going (before r sign (Some at) r.operands)
behind_turn at sign r None (Some p) c = going (before r (Some p) None (plus sign r.operands))
behind_turn at sign r None None c = closing_turn sign r r.opened c

abbrev pub turn_at : ℕ → Reading → Symbol → Place → Turned
turn_at at r s (Before sign star) = before_turn at sign star r (this_mark (codes "-") s) (at_atom at sign star None r s)
turn_at at r s (Signed sign star minus) = at_atom at sign star (Some minus) r s
turn_at at r s (Behind sign) = behind_turn at sign r (this_mark (codes "*") s) (sum_sign s) (this_mark (codes ")") s)

abbrev pub turn : ℕ → Reading → Symbol → Turned
turn at r s = turn_at at r s r.place

-- ---- All tokens

-- the term that ends behind these operands
abbrev pub whole : List Bracket → List IxDraft → Reader Symbol IxDraft
whole [] es ts = Ok (top es, ts)
whole (o ∷ os) es ts = Err (At ts)

-- the term that ends before these tokens
abbrev pub ended : Place → Reading → Reader Symbol IxDraft
ended (Before sign star) r ts = Err (At ts)
ended (Signed sign star minus) r ts = Err (At ts)
ended (Behind sign) r ts = whole r.opened (plus sign r.operands) ts

abbrev pub after_turn : (Reading → Read Symbol IxDraft) → List Symbol → Turned → Read Symbol IxDraft
after_turn again ts (going r) = again r
after_turn again ts (off r) = ended r.place r ts
after_turn again ts deep = Err Deep

abbrev pub read_on : Scope → (end : ℕ) → Reading → Reader Symbol IxDraft
read_on scope end r [] = ended r.place r []
read_on scope end r (s ∷ ss) = if is_seen scope s then after_turn (λ q. read_on scope end q ss) (s ∷ ss) (turn (end - length (s ∷ ss)) r s) else ended r.place r (s ∷ ss)

abbrev pub start : (room : ℕ) → Reading
start room = record { place = Before None None; room = room; opened = []; operands = [] }

-- ---- What these see of the code's types

abbrev pub reading_seen : code.Reading → Reading
reading_seen r = record { place = r.place; room = r.room; opened = reverse r.opened.items; operands = made_all r.steps [] }

abbrev pub turned_seen : code_turned.Turned → Turned
turned_seen (t.Going r) = going (reading_seen r)
turned_seen (t.Off r) = off (reading_seen r)
turned_seen t.Deep = deep
