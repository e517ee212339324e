-- No text of the grammar has a Header but the program's.
use Rattle.std.proofs.Common.{◌≡◌, Bool, true, false, List, ◌++◌, codes, refl, ap}
use Rattle.std.specs.Prelude.{if◌then◌else◌}
use Rattle.std.specs.List.{list_all}
use Rattle.std.proofs.lemmas.Bool.{false≢true}
use Rattle.affc_lex.specs.declared.token.Kind.{Kind}
use Rattle.affc_lex.specs.declared.token.Kind.TheVariants.{Word, Number, Value, Header, Hash, LineEnd, Prelude, Mark}
use Rattle.affc_lex.specs.Bytes.{same}
use Rattle.affc_grammar.specs.Grammar as g
use Rattle.affc_grammar.specs.Grammar.{Symbol, IxText, LineText, Text, ix_symbols, pragmas_symbols, function_symbols, include_symbols, prelude_symbols, text_symbols}
use Rattle.affc_grammar.proofs.Ordinary.{is_ordinary, all_on, all_of, ix_ordinary, pragmas_ordinary, function_ordinary}
use Rattle.affc_parse.specs.Shown.{is_header_kind}

-- a Header is the program's
abbrev pub is_right : Symbol → Bool
is_right s = if is_header_kind s.kind then same s.bytes (codes "<stdint.h>") else true

abbrev pub AreRight : List Symbol → Type 0
AreRight ss = list_all is_right ss ≡ true

pub on : (xs ys : List Symbol) → AreRight xs → AreRight ys → AreRight (xs ++ ys)
on = all_on is_right

no_header : (k : Kind) → is_ordinary k ≡ true → is_header_kind k ≡ false
no_header Header h = absurd (false≢true h)
no_header Word h = refl
no_header Number h = refl
no_header Value h = refl
no_header Hash h = refl
no_header LineEnd h = refl
no_header Prelude h = refl
no_header Mark h = refl

ordinary_right : (s : Symbol) → is_ordinary s.kind ≡ true → is_right s ≡ true
ordinary_right s h = ap (λ b. if b then same s.bytes (codes "<stdint.h>") else true) (no_header s.kind h)

pub ix_right : {prelude : Bool} (a : IxText prelude) → AreRight (ix_symbols a)
ix_right a = all_of is_right ordinary_right (ix_symbols a) (ix_ordinary a)

line_right : (l : LineText) → AreRight (include_symbols l)
line_right g.line_feed = refl
line_right g.text_end = refl

prelude_right : (b : Bool) → AreRight (prelude_symbols b)
prelude_right true = refl
prelude_right false = refl

pub text_right : (c : Text) → AreRight (text_symbols c)
text_right c =
    on (include_symbols c.line) _ (line_right c.line)
    (on (pragmas_symbols c.pragmas) _ (all_of is_right ordinary_right (pragmas_symbols c.pragmas) (pragmas_ordinary c.pragmas))
    (on (prelude_symbols c.has_prelude) _ (prelude_right c.has_prelude) (all_of is_right ordinary_right (function_symbols c.function) (function_ordinary c.function))))
