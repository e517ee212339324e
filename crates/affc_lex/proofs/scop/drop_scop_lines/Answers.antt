use Rattle.std.proofs.Common.{◌<◌, ◌≡◌, ◌+◌, ◌-◌, ◌∙◌, length, take, drop, refl, sym, ap, arith, Vec, Global, true, false}
use Rattle.std.proofs.lemmas.List.{take_rest}
use Rattle.affc_lex.specs.declared.token.Token.{Token}
use Rattle.affc_lex.specs.Lexes.{lexemes, begins_scop_line}
use Rattle.affc_lex.proofs.ScopLines.{dropped_left, dropped_line, dropped_kept, dropped_as, some_token}
use Rattle.affc_lex.proofs.scop.drop_scop_lines.Goals as goal
use Rattle.affc_lex.proofs.scop.drop_scop_lines.Goals.{then-left-gt0, else-left-gt0+then-begins_scop_line, else-left-gt0+else-begins_scop_line}

pub loop-at-preserved : goal.loop-at-preserved
loop-at-preserved c =
    let text = c.args.text.now in
    let old = c.args.tokens.now.items in
    let l = c.loop-at in
    let now = l.tokens.items in
    let j = c.if-left-gt0 in
    let inside : l.at < length now = omega (arith, l.invariant.same_length) in
    elim c.if-left-gt0.branch [
      | then-left-gt0 w ↦
          dropped_as text old now j.tokens.items (l.at + 1) l.kept j.kept _ j.left (ap (λ (v : Vec Token Global). v.items) w.tokens-is) w.kept-is w.left-is
          (dropped_left text old now l.at l.kept l.left some_token l.invariant inside w.if-left-gt0.true)
      | else-left-gt0+then-begins_scop_line w ↦
          let none : 0 ≡ l.left = omega (arith, w.if-left-gt0.false) in
          let rest : take (length w.deref.result.now - l.at) (drop l.at w.deref.result.now) ≡ drop l.at now = take_rest w.deref.result.now l.at ∙ ap (drop l.at) w.deref.ensures.value in
          let line : begins_scop_line (lexemes text (drop l.at now)) ≡ true = ap (λ ts. begins_scop_line (lexemes text ts)) (sym rest) ∙ sym w.begins_scop_line.ensures ∙ w.if-begins_scop_line.true in
          dropped_as text old now j.tokens.items (l.at + 1) l.kept j.kept 3 j.left (ap (λ (v : Vec Token Global). v.items) w.tokens-is) w.kept-is w.left-is
          (dropped_line text old now l.at l.kept some_token (dropped_as text old now now l.at l.kept l.kept l.left 0 refl refl none l.invariant) inside line)
      | else-left-gt0+else-begins_scop_line w ↦
          let none : 0 ≡ l.left = omega (arith, w.if-left-gt0.false) in
          let rest : take (length w.deref.result.now - l.at) (drop l.at w.deref.result.now) ≡ drop l.at now = take_rest w.deref.result.now l.at ∙ ap (drop l.at) w.deref.ensures.value in
          let no_line : begins_scop_line (lexemes text (drop l.at now)) ≡ false = ap (λ ts. begins_scop_line (lexemes text ts)) (sym rest) ∙ sym w.begins_scop_line.ensures ∙ w.if-begins_scop_line.false in
          dropped_as text old _ j.tokens.items (l.at + 1) (l.kept + 1) j.kept 0 j.left (ap (λ (v : Vec Token Global). v.items) w.tokens-is) w.kept-is (w.left-is ∙ sym none)
          (dropped_kept text old now l.at l.kept w.index.result.now (dropped_as text old now now l.at l.kept l.kept l.left 0 refl refl none l.invariant) inside no_line w.index.ensures)
    ]
