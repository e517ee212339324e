-- A text of the grammar without the prelude has no token that is the prelude.
use Rattle.std.proofs.Common.{◌≡◌, Bool, true, false, not, ◌||◌, List, [], ◌∷◌, refl, sym}
use Rattle.std.specs.List.{list_all}
use Rattle.std.proofs.lemmas.Bool.{false≢true, and_parts}
use Rattle.affc_lex.specs.declared.token.Kind.{Kind}
use Rattle.affc_lex.specs.declared.token.Kind.TheVariants.{Word, Number, Value, Header, Hash, LineEnd, Prelude, Mark}
use Rattle.affc_grammar.specs.Grammar as g
use Rattle.affc_grammar.specs.Grammar.{Symbol, LineText, Text, pragmas_symbols, function_symbols, include_symbols, prelude_symbols, text_symbols}
use Rattle.affc_grammar.specs.Reads.{is_prelude, has_prelude}
use Rattle.affc_grammar.proofs.Ordinary.{is_ordinary, AreOrdinary, all_on, all_of, pragmas_ordinary, function_ordinary}

-- not the prelude
abbrev pub is_right : Symbol → Bool
is_right s = not (is_prelude s.kind)

abbrev pub AreRight : List Symbol → Type 0
AreRight ss = list_all is_right ss ≡ true

ordinary_kind : (k : Kind) → is_ordinary k ≡ true → not (is_prelude k) ≡ true
ordinary_kind Prelude h = absurd (false≢true h)
ordinary_kind Word h = refl
ordinary_kind Number h = refl
ordinary_kind Value h = refl
ordinary_kind Header h = refl
ordinary_kind Hash h = refl
ordinary_kind LineEnd h = refl
ordinary_kind Mark h = refl

text_right : (c : Text) → c.has_prelude ≡ false → AreRight (text_symbols c)
text_right c e =
    all_on is_right (include_symbols c.line) _ (line_right c.line)
    (all_on is_right (pragmas_symbols c.pragmas) _ (ordinary (pragmas_symbols c.pragmas) (pragmas_ordinary c.pragmas))
    (all_on is_right (prelude_symbols c.has_prelude) _ (prelude_right c.has_prelude e) (ordinary (function_symbols c.function) (function_ordinary c.function))))
  where
    ordinary : (ss : List Symbol) → AreOrdinary ss → AreRight ss
    ordinary = all_of is_right (λ s. ordinary_kind s.kind)

    prelude_right : (b : Bool) → b ≡ false → AreRight (prelude_symbols b)
    prelude_right true e = absurd (false≢true (sym e))
    prelude_right false e = refl

    line_right : (l : LineText) → AreRight (include_symbols l)
    line_right g.line_feed = refl
    line_right g.text_end = refl

none_there : (ss : List Symbol) → AreRight ss → has_prelude ss ≡ false
none_there [] h = refl
none_there (s ∷ ss) h = let p = and_parts (is_right s) (list_all is_right ss) h in by (is_prelude s.kind) p.0 (none_there ss p.1)
  where
    by : (t : Bool) → not t ≡ true → has_prelude ss ≡ false → (t || has_prelude ss) ≡ false
    by true e f = absurd (false≢true e)
    by false e f = f

pub no_prelude : (c : Text) → c.has_prelude ≡ false → has_prelude (text_symbols c) ≡ false
no_prelude c e = none_there (text_symbols c) (text_right c e)
