-- The draft that is read is that of the text which the symbols spell.
use Rattle.std.proofs.Common.{◌≡◌, ℕ, zero, suc, ◌-◌, List, [], ◌∷◌, length, length-drop, drop, map, Ok, Err, refl, sym, ap, ◌∙◌, arith}
use Rattle.std.proofs.lemmas.List.{length-map}
use Rattle.affc_grammar.specs.Grammar.{Symbol}
use Rattle.affc_grammar.specs.Reader.{At, Deep, Read}
use Rattle.affc_grammar.proofs.Closed.{same_ok, same_at}
use Rattle.affc_syntax.specs.declared.draft.symbol.Symbol as code
use Rattle.affc_syntax.specs.draft.Symbols.{seen}
use Rattle.affc_syntax.specs.declared.ahead.Stop.TheVariants as s
use Rattle.affc_syntax.specs.Readers.{mapped}
use Rattle.affc_schedtext.specs.declared.draft.Draft as code_draft
use Rattle.affc_schedtext.specs.Outline.{Outline}
use Rattle.affc_schedtext.specs.Grammar.{Text}
use Rattle.affc_schedtext.specs.Draft.{text_draft}
use Rattle.affc_schedtext.specs.Reading.{read_text}
use Rattle.affc_schedtext.specs.Drafting.{text}
use Rattle.affc_schedtext.specs.Seen.{draft_seen}
use Rattle.affc_schedtext.specs.ReadAnswers.{IsRead}
use Rattle.affc_schedtext.proofs.StageExact.{text_is}
use Rattle.affc_schedtext.proofs.TextEnds.{text_end}

mapped_ok : {A D : Type 0} (f : A → D) (x : Read Symbol A) (b : D) (us : List Symbol) → mapped f x ≡ Ok (b, us) → (a : A) × (x ≡ Ok (a, us)) × (b ≡ f a)
mapped_ok f (Ok x) b us e = let k = same_ok (f x.0) x.1 b us e in (x.0, (λ i. Ok (x.0, k.1 i)), sym k.0)
mapped_ok f (Err (At ts)) b us e = absurd (cc)
mapped_ok f (Err Deep) b us e = absurd (cc)

mapped_at : {A D : Type 0} (f : A → D) (x : Read Symbol A) (us : List Symbol) → mapped f x ≡ Err (At us) → x ≡ Err (At us)
mapped_at f (Ok x) us e = absurd (cc)
mapped_at {A} {D} f (Err (At ts)) us e = ap (λ l. Err (At l)) (same_at {T = Symbol} {A = D} ts us e)
mapped_at f (Err Deep) us e = absurd (cc)

mapped_deep : {A D : Type 0} (f : A → D) (x : Read Symbol A) → mapped f x ≡ Err Deep → x ≡ Err Deep
mapped_deep f (Ok x) e = absurd (cc)
mapped_deep f (Err (At ts)) e = absurd (cc)
mapped_deep f (Err Deep) e = refl

-- nothing is left behind a text that is read
pub ended : (o : Outline) (room : ℕ) (ss : List Symbol) (c : Text o) (rest : List Symbol) → read_text o room ss ≡ Ok (c, rest) → rest ≡ []
ended o room ss c rest e = text_end o (length ss) room ss (text_draft c) rest (text_is o room ss ∙ ap (mapped text_draft) e)

drop_within : (ss : List Symbol) (n : ℕ) → drop (length ss - length (drop n ss)) ss ≡ drop n ss
drop_within ss zero = let e : length ss - length ss ≡ 0 = omega arith in ap (λ m. drop m ss) e
drop_within [] (suc n) = refl
drop_within (x ∷ ss) (suc n) =
    let count = length-drop n ss in
    let e : suc (length ss) - length (drop n ss) ≡ suc (length ss - length (drop n ss)) = omega arith in
    ap (λ m. drop m (x ∷ ss)) e ∙ drop_within ss n

module _ (o : Outline) (room : ℕ) (symbols : List code.Symbol) where
  abbrev all_seen : List Symbol
  all_seen = map seen symbols

  is_mapped : text o (length symbols) room all_seen ≡ mapped text_draft (read_text o room all_seen)
  is_mapped = ap (λ n. text o n room all_seen) (sym (length-map symbols seen)) ∙ text_is o room all_seen

  pub answered : (t : code_draft.Draft) (n : ℕ) → text o (length symbols) room all_seen ≡ Ok (draft_seen t, drop n all_seen) → IsRead o room all_seen (Ok t)
  answered t n e =
      let k = mapped_ok text_draft (read_text o room all_seen) (draft_seen t) (drop n all_seen) (sym is_mapped ∙ e) in
      (k.0, k.1 ∙ ap (λ l. Ok (k.0, l)) (text_end o (length symbols) room all_seen (draft_seen t) (drop n all_seen) e), k.2)

  pub stopped : (n : ℕ) → text o (length symbols) room all_seen ≡ Err (At (drop n all_seen)) → IsRead o room all_seen (Err (s.At (length symbols - length (drop n all_seen))))
  stopped n e =
      let all = length-map symbols seen in
      (mapped_at text_draft (read_text o room all_seen) (drop n all_seen) (sym is_mapped ∙ e) ∙ ap (λ l. Err (At l)) (sym (drop_within all_seen n)) ∙ ap (λ m. Err (At (drop (m - length (drop n all_seen)) all_seen))) all, omega arith)

  pub too_deep : text o (length symbols) room all_seen ≡ Err Deep → read_text o room all_seen ≡ Err Deep
  too_deep e = mapped_deep text_draft (read_text o room all_seen) (sym is_mapped ∙ e)
