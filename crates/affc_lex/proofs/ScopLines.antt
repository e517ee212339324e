-- Tokens left out of a list, from its beginning on.
use Rattle.std.proofs.Common.{◌≡◌, ℕ, suc, ◌+◌, ◌-◌, ◌<◌, ◌≤◌, true, false, List, [], ◌∷◌, ◌++◌, length, take, drop, set, get_or, refl, sym, ap, ◌∙◌, subst, arith, append_assoc}
use Rattle.std.specs.List.{All}
use Rattle.std.proofs.lemmas.List.{drop_more, take_more_set, drop-set-lt, map_push, length-set}
use Rattle.std.proofs.lemmas.List.Elements.{All-set}
use Rattle.std.proofs.lemmas.Bool.{cond-true, cond-false}
use Rattle.affc_lex.specs.declared.token.Kind.TheVariants.{Word}
use Rattle.affc_lex.specs.declared.token.Token.{Token}
use Rattle.affc_lex.specs.Lexes.{IsIn, lexeme, lexemes, begins_scop_line, without_scop_lines}

-- of the tokens up to a place, those that stay stand in front; `left` more of the next ones go
pub record Dropped (text : List ℕ) (old now : List Token) (at kept left : ℕ) : Type 0 where
  pub so_far : without_scop_lines 0 (lexemes text old) ≡ lexemes text (take kept now) ++ without_scop_lines left (lexemes text (drop at now))
  pub behind : kept ≤ at
  pub same_length : length now ≡ length old
  pub within : All (IsIn (length text)) now

-- the tokens from a place on, as the text shows them
seen_more : (text : List ℕ) (now : List Token) (at : ℕ) (d : Token) → at < length now → lexemes text (drop at now) ≡ lexeme text (get_or now at d) ∷ lexemes text (drop (at + 1) now)
seen_more text now at d inside = ap (lexemes text) (drop_more now at d inside)

pub dropped_left : (text : List ℕ) (old now : List Token) (at kept left : ℕ) (d : Token) → Dropped text old now at kept left → at < length now → 0 < left → Dropped text old now (at + 1) kept (left - 1)
dropped_left text old now at kept left d so inside some =
    let count : left ≡ suc (left - 1) = omega arith in
    record {
      so_far = so.so_far ∙ ap (λ zs. lexemes text (take kept now) ++ zs) (ap (λ n. without_scop_lines n (lexemes text (drop at now))) count ∙ ap (without_scop_lines (suc (left - 1))) (seen_more text now at d inside));
      behind = omega (arith, so.behind);
      same_length = so.same_length;
      within = so.within;
    }

pub dropped_line : (text : List ℕ) (old now : List Token) (at kept : ℕ) (d : Token) → Dropped text old now at kept 0 → at < length now → begins_scop_line (lexemes text (drop at now)) ≡ true → Dropped text old now (at + 1) kept 3
dropped_line text old now at kept d so inside line =
    let split = seen_more text now at d inside in
    record {
      so_far = so.so_far ∙ ap (λ zs. lexemes text (take kept now) ++ zs) (ap (without_scop_lines 0) split ∙ cond-true _ _ _ (ap begins_scop_line (sym split) ∙ line));
      behind = omega (arith, so.behind);
      same_length = so.same_length;
      within = so.within;
    }

pub dropped_kept : (text : List ℕ) (old now : List Token) (at kept : ℕ) (x : Token) → Dropped text old now at kept 0 → at < length now → begins_scop_line (lexemes text (drop at now)) ≡ false → x ≡ get_or now at x → Dropped text old (set now kept x) (at + 1) (kept + 1) 0
dropped_kept text old now at kept x so inside no_line x_is =
    let split = seen_more text now at x inside in
    let front : take (kept + 1) (set now kept x) ≡ take kept now ++ x ∷ [] = take_more_set now kept x (omega (arith, so.behind)) in
    let behind : drop (at + 1) (set now kept x) ≡ drop (at + 1) now = drop-set-lt (at + 1) now kept x (omega (arith, so.behind)) in
    let next : without_scop_lines 0 (lexemes text (drop at now)) ≡ lexeme text x ∷ without_scop_lines 0 (lexemes text (drop (at + 1) now)) =
    ap (without_scop_lines 0) split ∙ cond-false _ _ _ (ap begins_scop_line (sym split) ∙ no_line) ∙ ap (λ (t : Token). lexeme text t ∷ without_scop_lines 0 (lexemes text (drop (at + 1) now))) (sym x_is) in
    let joined : lexemes text (take (kept + 1) (set now kept x)) ≡ lexemes text (take kept now) ++ lexeme text x ∷ [] = ap (lexemes text) front ∙ map_push (lexeme text) (take kept now) x in
    record {
      so_far =
          so.so_far ∙ ap (λ zs. lexemes text (take kept now) ++ zs) next
          ∙ sym (append_assoc (lexemes text (take kept now)) (lexeme text x ∷ []) (without_scop_lines 0 (lexemes text (drop (at + 1) now))))
          ∙ ap (λ zs. zs ++ without_scop_lines 0 (lexemes text (drop (at + 1) now))) (sym joined)
          ∙ ap (λ ts. lexemes text (take (kept + 1) (set now kept x)) ++ without_scop_lines 0 (lexemes text ts)) (sym behind);
      behind = omega (arith, so.behind);
      same_length = length-set now kept x ∙ so.same_length;
      within = All-set (IsIn (length text)) now kept x (subst (IsIn (length text)) (sym x_is) (so.within at x inside)) so.within;
    }

pub dropped_as : (text : List ℕ) (old now now' : List Token) (at kept kept' left left' : ℕ) → now' ≡ now → kept' ≡ kept → left' ≡ left → Dropped text old now at kept left → Dropped text old now' at kept' left'
dropped_as text old now now' at kept kept' left left' e f g so =
    subst (λ ts. Dropped text old ts at kept' left') (sym e) (subst (λ k. Dropped text old now at k left') (sym f) (subst (λ n. Dropped text old now at kept n) (sym g) so))

pub some_token : Token
some_token = record { kind = Word; start = 0; end = 0 }
