use Rattle.std.proofs.Common.{List, ℕ, Option, [], ◌∷◌, ◌++◌, ◌≡◌, ◌∙◌, refl, sym, ap, subst}
use Rattle.std.proofs.lemmas.Result.{err_from_is_err_and}
use Rattle.affc_decide.specs.Words.{texts_of}
use Rattle.affc_decide.specs.Blocks.{Blank, Say, Takes, TakesNone}
use Rattle.affc_decide.specs.declared.block.Block.{Block}
use Rattle.affc_decide.specs.declared.block.Line.TheVariants as line
use Rattle.affc_decide.proofs.Said.{first_word, if_err_then, if_ok_then, no_words, rest_of, row_none, word_at}
use Rattle.affc_decide.proofs.block.read_words.Goals as goal
use Rattle.affc_decide.proofs.block.read_words.Goals.{in-System+in_ok-read_system-in-System, in-Ranges+in_ok-set_ranges-in-Ranges, in-Limit+in_ok-read_limit-in-Limit, in-Row+in_ok-add_numbers-in-Row}

pub returns-in_default-clause-taken : goal.returns-in_default-clause-taken
returns-in_default-clause-taken c = (Blank, no_words c.args.words.now c.in_default.len_below, (refl, refl))

pub returns-in_err-read_system-in-System-clause-none : goal.returns-in_err-read_system-in-System-clause-none
returns-in_err-read_system-in-System-clause-none c =
    let p = err_from_is_err_and c.from_residual.result c.from_residual.ensures.1 in
    let words = first_word c.args.words.now c.in-len1-up.len_at_least ∙ ap (λ (w : List ℕ). w ∷ texts_of (rest_of c.args.words.now)) c.in-System.ensures in
    rw (p.1, p.2) (λ is. subst (λ (ws : List (List ℕ)). TakesNone ws c.args.block.now) (sym words) (c.in_err-read_system-in-System.ensures.none is))

pub returns-in_err-set_ranges-in-Ranges-clause-none : goal.returns-in_err-set_ranges-in-Ranges-clause-none
returns-in_err-set_ranges-in-Ranges-clause-none c =
    let p = err_from_is_err_and c.from_residual-in_err-set_ranges-in-Ranges.result c.from_residual-in_err-set_ranges-in-Ranges.ensures.1 in
    let words = first_word c.args.words.now c.in-len1-up.len_at_least ∙ ap (λ (w : List ℕ). w ∷ texts_of (rest_of c.args.words.now)) c.in-Ranges.ensures in
    rw (p.1, p.2) (λ is. subst (λ (ws : List (List ℕ)). TakesNone ws c.args.block.now) (sym words) (c.in_err-set_ranges-in-Ranges.ensures.none is))

pub returns-in_err-read_limit-in-Limit-clause-none : goal.returns-in_err-read_limit-in-Limit-clause-none
returns-in_err-read_limit-in-Limit-clause-none c =
    let p = err_from_is_err_and c.from_residual-in_err-read_limit-in-Limit.result c.from_residual-in_err-read_limit-in-Limit.ensures.1 in
    let words = first_word c.args.words.now c.in-len1-up.len_at_least ∙ ap (λ (w : List ℕ). w ∷ texts_of (rest_of c.args.words.now)) c.in-Limit.ensures in
    rw (p.1, p.2) (λ is. subst (λ (ws : List (List ℕ)). TakesNone ws c.args.block.now) (sym words) c.in_err-read_limit-in-Limit.ensures.none)

pub returns-in-Expect-clause-taken : goal.returns-in-Expect-clause-taken
returns-in-Expect-clause-taken c =
    let words = first_word c.args.words.now c.in-len1-up.len_at_least ∙ ap (λ (w : List ℕ). w ∷ texts_of (rest_of c.args.words.now)) c.in-Expect.ensures in
    if_ok_then c.expected.result (λ added taken. subst (λ (ws : List (List ℕ)). Takes ws c.args.block.now added c.args.block.now) (sym words) (taken c.args.block.now)) c.expected.ensures.taken

pub returns-in-Expect-clause-none : goal.returns-in-Expect-clause-none
returns-in-Expect-clause-none c =
    let words = first_word c.args.words.now c.in-len1-up.len_at_least ∙ ap (λ (w : List ℕ). w ∷ texts_of (rest_of c.args.words.now)) c.in-Expect.ensures in
    if_err_then c.expected.result (λ e none is. subst (λ (ws : List (List ℕ)). TakesNone ws c.args.block.now) (sym words) (none is c.args.block.now)) c.expected.ensures.none

pub returns-in_err-add_numbers-in-Row-clause-none : goal.returns-in_err-add_numbers-in-Row-clause-none
returns-in_err-add_numbers-in-Row-clause-none c =
    let p = err_from_is_err_and c.from_residual-in_err-add_numbers-in-Row.result c.from_residual-in_err-add_numbers-in-Row.ensures.1 in
    let words = first_word c.args.words.now c.in-len1-up.len_at_least in
    let row = c.in-Row.ensures in
    rw (p.1, p.2) (λ is. subst (λ (ws : List (List ℕ)). TakesNone ws c.args.block.now) (sym words)
    (row_none (word_at c.args.words.now 0) (texts_of (rest_of c.args.words.now)) c.args.block.now row.0 row.1 row.2 row.3
    (λ form added after say taken. c.in_err-add_numbers-in-Row.ensures.none is form added after (subst (λ (ws : List (List ℕ)). Say ws (form.coefs ++ form.constant ∷ [])) (sym words) say) taken)))

pub returns-clause-taken : goal.returns-clause-taken
returns-clause-taken c =
    let named : (w : List ℕ) → word_at c.args.words.now 0 ≡ w → texts_of c.args.words.now ≡ w ∷ texts_of (rest_of c.args.words.now) =
    λ w is. first_word c.args.words.now c.in-len1-up.len_at_least ∙ ap (λ (v : List ℕ). v ∷ texts_of (rest_of c.args.words.now)) is in
    let taken : (ws : List (List ℕ)) → texts_of c.args.words.now ≡ ws → (b : Option Block) → c.match-kind_of.block ≡ b → Takes ws c.args.block.now line.Nothing b → Takes (texts_of c.args.words.now) c.args.block.now line.Nothing c.match-kind_of.block =
    λ ws words b is it. subst (λ (vs : List (List ℕ)). Takes vs c.args.block.now line.Nothing c.match-kind_of.block) (sym words) (subst (λ (x : Option Block). Takes ws c.args.block.now line.Nothing x) (sym is) it) in
    elim c.match-kind_of.branch [
      | in-System+in_ok-read_system-in-System w ↦ taken _ (named _ w.in-System.ensures) w.read_system.new.block w.block-is w.in_ok-read_system-in-System.ensures.taken
      | in-Ranges+in_ok-set_ranges-in-Ranges w ↦ taken _ (named _ w.in-Ranges.ensures) w.set_ranges.new.block w.block-is w.in_ok-set_ranges-in-Ranges.ensures.taken
      | in-Limit+in_ok-read_limit-in-Limit w ↦ taken _ (named _ w.in-Limit.ensures) w.read_limit.new.block w.block-is w.in_ok-read_limit-in-Limit.ensures.taken
      | in-Row+in_ok-add_numbers-in-Row w ↦ taken _ refl w.add_numbers.new.block w.block-is w.in_ok-add_numbers-in-Row.ensures.taken
    ]
