-- What reading a draft answers.
use Rattle.std.specs.Prelude.{◌≡◌, ◌≤◌, ℕ, List, [], length, drop, Result, Ok, Err}
use Rattle.affc_grammar.specs.Grammar.{Symbol}
use Rattle.affc_grammar.specs.Reader.{At, Deep}
use Rattle.affc_syntax.specs.declared.ahead.Stop as stop
use Rattle.affc_syntax.specs.declared.ahead.Stop.TheVariants as s
use Rattle.affc_schedtext.specs.declared.draft.Draft as code_draft
use Rattle.affc_schedtext.specs.Outline.{Outline}
use Rattle.affc_schedtext.specs.Grammar.{Text}
use Rattle.affc_schedtext.specs.Draft.{text_draft}
use Rattle.affc_schedtext.specs.Reading.{read_text}
use Rattle.affc_schedtext.specs.Seen.{draft_seen}

-- The draft is that of the text which the symbols spell; or reading stops at a symbol, or where too many brackets are open.
abbrev pub IsRead : Outline → (room : ℕ) → List Symbol → Result code_draft.Draft stop.Stop → Type 0
IsRead o room ss (Ok d) = (c : Text o) × (read_text o room ss ≡ Ok (c, [])) × (draft_seen d ≡ text_draft c)
IsRead o room ss (Err (s.At n)) = (read_text o room ss ≡ Err (At (drop n ss))) × (n ≤ length ss)
IsRead o room ss (Err s.Deep) = read_text o room ss ≡ Err Deep
IsRead o room ss (Err s.Memory) = Unit {0}
