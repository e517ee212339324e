-- The tokens of a text that is laid out.
use Rattle.std.proofs.Common.{◌≡◌, ◌&&◌, ◌||◌, ℕ, Bool, true, false, not, List, [], ◌∷◌, ◌++◌, map, codes, refl, ap, sym, ◌∙◌, append_assoc, if◌then◌else◌}
use Rattle.std.specs.List.{list_all}
use Rattle.std.proofs.lemmas.List.{append-nil}
use Rattle.std.proofs.lemmas.Bool.{and_parts, and_from, false≢true}
use Rattle.affc_lex.specs.declared.token.Kind.{Kind}
use Rattle.affc_lex.specs.declared.token.Kind.TheVariants.{Word, Number, Value, Header, Hash, LineEnd, Prelude, Mark}
use Rattle.affc_lex.specs.Bytes.{same}
use Rattle.affc_lex.specs.Pieces.{is_on_directive}
use Rattle.affc_lex.specs.Lexes.{Lexeme, Lexes, is_hash, is_line_end, is_word_kind, begins_scop_line, without_scop_lines, tokens_from, contains_refused}
use Rattle.affc_grammar.specs.Grammar.{Symbol, symbol, word, line_feed, text_end, PragmasText, no_pragmas, and_range, and_context, Text, int_symbols, cond_symbols, pragma_symbols, pragmas_symbols, prelude_symbols, include_symbols, line_symbols, function_symbols, text_symbols}
use Rattle.affc_cprint.specs.Layout.{◌then◌, pragmas_layout, prelude_layout, function_layout}
use Rattle.affc_cprint.proofs.Stretch.{symbols-tokens}
use Rattle.affc_cprint.proofs.Spelled.{AllStand, can_stand}
use Rattle.affc_cprint.proofs.LexedPrograms.{LinesStand, text_lexed}

-- ---- Lines that are dropped

abbrev is_named : List ℕ → Symbol → Bool
is_named name s = is_word_kind s.kind && same s.bytes name

abbrev scop_begins : List Symbol → Bool
scop_begins (a ∷ b ∷ c ∷ d ∷ others) = is_hash a.kind && is_named (codes "pragma") b && (is_named (codes "scop") c || is_named (codes "endscop") c) && is_line_end d.kind
scop_begins _ = false

same_begins : (ts : List Lexeme) → begins_scop_line ts ≡ scop_begins (map symbol ts)
same_begins [] = refl
same_begins (a ∷ []) = refl
same_begins (a ∷ b ∷ []) = refl
same_begins (a ∷ b ∷ c ∷ []) = refl
same_begins (a ∷ b ∷ c ∷ d ∷ ts) = refl

-- no line that is dropped begins in the symbols
abbrev no_scop : List Symbol → Bool
no_scop [] = true
no_scop (s ∷ ss) = not (scop_begins (s ∷ ss)) && no_scop ss

kept_all : (ts : List Lexeme) → no_scop (map symbol ts) ≡ true → without_scop_lines 0 ts ≡ ts
kept_all [] h = refl
kept_all (t ∷ ts) h =
    let p = and_parts (not (scop_begins (map symbol (t ∷ ts)))) (no_scop (map symbol ts)) h in
    of (begins_scop_line (t ∷ ts)) (ap not (same_begins (t ∷ ts)) ∙ p.0) (kept_all ts p.1)
  where
    of : (b : Bool) → not b ≡ true → without_scop_lines 0 ts ≡ ts → (if b then without_scop_lines 3 ts else t ∷ without_scop_lines 0 ts) ≡ t ∷ ts
    of true e rest = absurd (false≢true e)
    of false e rest = ap (λ us. t ∷ us) rest

no_hash : (s : Symbol) (ss : List Symbol) → is_hash s.kind ≡ false → scop_begins (s ∷ ss) ≡ false
no_hash s [] h = refl
no_hash s (a ∷ []) h = refl
no_hash s (a ∷ b ∷ []) h = refl
no_hash s (a ∷ b ∷ c ∷ ss) h = rw h refl

-- no line begins in symbols without `#`
quiet : (ss rest : List Symbol) → list_all (λ s. not (is_hash s.kind)) ss ≡ true → no_scop rest ≡ true → no_scop (ss ++ rest) ≡ true
quiet [] rest h e = e
quiet (s ∷ ss) rest h e =
    let p = and_parts (not (is_hash s.kind)) (list_all (λ s. not (is_hash s.kind)) ss) h in
    and_from _ _ (ap not (no_hash s (ss ++ rest) (off (is_hash s.kind) p.0))) (quiet ss rest p.1 e)
  where
    off : (b : Bool) → not b ≡ true → b ≡ false
    off true h = absurd (false≢true h)
    off false h = refl

stand_hashless : (ss : List Symbol) → AllStand ss → list_all (λ s. not (is_hash s.kind)) ss ≡ true
stand_hashless [] h = refl
stand_hashless (s ∷ ss) h =
    let p = and_parts (can_stand s) (list_all can_stand ss) h in
    and_from _ _ (of s.kind s.bytes p.0) (stand_hashless ss p.1)
  where
    of : (kind : Kind) (bytes : List ℕ) → can_stand (record { kind = kind; bytes = bytes }) ≡ true → not (is_hash kind) ≡ true
    of Hash bytes e = absurd (false≢true e)
    of Word bytes e = refl
    of Number bytes e = refl
    of Value bytes e = refl
    of Header bytes e = refl
    of LineEnd bytes e = refl
    of Prelude bytes e = refl
    of Mark bytes e = refl

lines_quiet : (c : PragmasText) (rest : List Symbol) → LinesStand c → no_scop rest ≡ true → no_scop (pragmas_symbols c ++ rest) ≡ true
lines_quiet no_pragmas rest s e = e
lines_quiet (and_range ps w low high text_end) rest s e = absurd (cc)
lines_quiet (and_range ps w low high line_feed) rest s e =
    ap no_scop (append_assoc (pragmas_symbols ps) (pragma_symbols (codes "param") ++ word w ∷ (int_symbols low ++ (int_symbols high ++ line_symbols line_feed))) rest)
    ∙ lines_quiet ps ((pragma_symbols (codes "param") ++ word w ∷ (int_symbols low ++ (int_symbols high ++ line_symbols line_feed))) ++ rest) s.0
    (ap no_scop (ap (λ ss. pragma_symbols (codes "param") ++ word w ∷ ss) (grouped (int_symbols low) (int_symbols high) (line_symbols line_feed) rest))
    ∙ quiet (word (codes "pragma") ∷ word (codes "affc") ∷ word (codes "param") ∷ []) ((word w ∷ (int_symbols low ++ int_symbols high)) ++ (line_symbols line_feed ++ rest)) refl
    (quiet (word w ∷ (int_symbols low ++ int_symbols high)) (line_symbols line_feed ++ rest) (stand_hashless (word w ∷ (int_symbols low ++ int_symbols high)) s.2) (quiet (line_symbols line_feed) rest refl e)))
  where
    grouped : (a b c d : List Symbol) → (a ++ (b ++ c)) ++ d ≡ (a ++ b) ++ (c ++ d)
    grouped a b c d = simp append_assoc
lines_quiet (and_context ps cs text_end) rest s e = absurd (cc)
lines_quiet (and_context ps cs line_feed) rest s e =
    ap no_scop (append_assoc (pragmas_symbols ps) (pragma_symbols (codes "context") ++ (cond_symbols cs ++ line_symbols line_feed)) rest)
    ∙ lines_quiet ps ((pragma_symbols (codes "context") ++ (cond_symbols cs ++ line_symbols line_feed)) ++ rest) s.0
    (ap no_scop (ap (λ ss. pragma_symbols (codes "context") ++ ss) (append_assoc (cond_symbols cs) (line_symbols line_feed) rest))
    ∙ quiet (word (codes "pragma") ∷ word (codes "affc") ∷ word (codes "context") ∷ []) (cond_symbols cs ++ (line_symbols line_feed ++ rest)) refl
    (quiet (cond_symbols cs) (line_symbols line_feed ++ rest) (stand_hashless (cond_symbols cs) s.2) (quiet (line_symbols line_feed) rest refl e)))

prelude_quiet : (b : Bool) (rest : List Symbol) → no_scop rest ≡ true → no_scop (prelude_symbols b ++ rest) ≡ true
prelude_quiet true rest e = quiet (prelude_symbols true) rest refl e
prelude_quiet false rest e = e

text_quiet : (c : Text) → c.line ≡ line_feed → LinesStand c.pragmas → AllStand (function_symbols c.function) → no_scop (text_symbols c) ≡ true
text_quiet c line lines s =
    let function : no_scop (function_symbols c.function) ≡ true = ap no_scop (sym (append-nil (function_symbols c.function))) ∙ quiet (function_symbols c.function) [] (stand_hashless (function_symbols c.function) s) refl in
    let rest : no_scop (pragmas_symbols c.pragmas ++ (prelude_symbols c.has_prelude ++ function_symbols c.function)) ≡ true
    = lines_quiet c.pragmas (prelude_symbols c.has_prelude ++ function_symbols c.function) lines (prelude_quiet c.has_prelude (function_symbols c.function) function) in
    ap (λ l. no_scop (include_symbols l ++ (pragmas_symbols c.pragmas ++ (prelude_symbols c.has_prelude ++ function_symbols c.function)))) line
    ∙ include (pragmas_symbols c.pragmas ++ (prelude_symbols c.has_prelude ++ function_symbols c.function)) rest
  where
    include : (rest : List Symbol) → no_scop rest ≡ true → no_scop (include_symbols line_feed ++ rest) ≡ true
    include rest e = quiet (word (codes "include") ∷ record { kind = Header; bytes = codes "<stdint.h>" } ∷ line_symbols line_feed) rest refl e

-- ---- The tokens

-- a text has tokens with these symbols
pub record HasSymbols (text : List ℕ) (symbols : List Symbol) : Type 0 where
  pub tokens : List Lexeme
  pub lexes : Lexes text tokens
  pub are : map symbol tokens ≡ symbols

pub laid_out : (c : Text) → c.line ≡ line_feed → LinesStand c.pragmas → AllStand (function_symbols c.function)
    → HasSymbols (codes "#include <stdint.h>\n" then pragmas_layout c.pragmas then prelude_layout c.has_prelude then function_layout c.function) (text_symbols c)
laid_out c line lines s =
    let t = text_lexed c line lines s in
    let text = codes "#include <stdint.h>\n" then pragmas_layout c.pragmas then prelude_layout c.has_prelude then function_layout c.function in
    let are : map symbol (tokens_from 0 t.pieces) ≡ text_symbols c = symbols-tokens 0 t.pieces ∙ t.its_symbols in
    record {
      tokens = tokens_from 0 t.pieces;
      lexes = record {
        pieces = t.pieces;
        spelled = sym t.spelled;
        standing = t.standing;
        ended = ap (λ spot. not (is_on_directive spot)) t.leads;
        unrefused = ap not (ap contains_refused (sym (append-nil text)) ∙ t.calm [] refl);
        its_tokens = sym (kept_all (tokens_from 0 t.pieces) (ap no_scop are ∙ text_quiet c line lines s));
      };
      are = are;
    }
