-- Clap's walk over words, against the definition.
use Rattle.std.proofs.Common.{◌≡◌, ◌∙◌, ◌≤◌, ◌+◌, ◌&&◌, ℕ, zero, suc, Bool, true, false, not, true≢false, List, [], ◌∷◌, ◌++◌, length, Option, Some, None, refl, sym, ap, subst, arith, codes}
use Rattle.std.specs.Prelude.{min}
use Rattle.std.specs.Str.{bytes_eq}
use Rattle.clap.specs.Lexer.{usize_max, long_of, short_of}
use Rattle.clap.specs.Walk.{Held, Row, Rule, Waiting, idle, option, value, arg_by_id, arg_by_index, arg_by_long, reacted, settled, walked}
use Rattle.clap.specs.Kinds.{Kinds}
use Rattle.clap.specs.Faults.{settle_fault, step_fault}
use Rattle.affc_words.specs.Command.{Parts, Word, Operand, Named, End, Stray, word_of, parts_of, by_word, with_operand, with_option, among, without}
use Rattle.affc_words.specs.Parsed.{is_clean, clean_by}
use Rattle.affc_words.proofs.Clap.Uses.{Text, Uses, given, among-own}
use Rattle.affc_words.proofs.Clap.Plain.{plain_rule}
use Rattle.affc_words.proofs.Clap.Lexed.{Lexed, operand, named, ends, stray, lexed}
use Rattle.affc_words.proofs.Clap.Turns.{form_shape, between, pending, faults, ended, fault_at, faults-nil, faults-next, ended-next, faults-stop, fault_at-operand, walked-operand, walked-trailing, step-stray, step-operand, to_positional-operand, unknown_option, option_settles, fault_at-joined, walked-joined, fault_at-apart, walked-apart, fault_at-value, walked-value, fault_at-end, walked-end}
use Rattle.affc_words.proofs.Clap.Stands.{IsOption, Follow, HasOptions, Holds, Stands, holds-pending, again-pending, none-pending, react_fault-fresh, react_fault-again, holds-reacted, stands-operand, stands-option}
use Rattle.affc_words.proofs.Clap.Verdicts.{Neither, Verdict, both, neither, verdict-at, both-nil, verdict-operand, neither-operand, neither-none, verdict-option, neither-option}

clean_operand : (word : Word) (behind : Bool) → word ≡ Operand → clean_by word behind ≡ true → behind ≡ true
clean_operand word behind is e = rw is at e

clean_named : (name : Text) (given : Option Text) (word : Word) (behind : Bool) → word ≡ Named name given → clean_by word behind ≡ true → behind ≡ true
clean_named name given word behind is e = rw is at e

clean_stray : (word : Word) (behind : Bool) → word ≡ Stray → clean_by word behind ≡ true → ⊥
clean_stray word behind is e = let f = rw is at e in absurd (true≢false (sym f))

-- an option that isn't one of the names, whatever follows it
unread : (ids names : List Text) (n : Text) (ws : List Text) (kinds : Kinds) → (kinds ≡ [] → ⊥) → among n names ≡ false → Neither ids names (parts_of (Some n) ws) kinds
unread ids names n [] kinds bad none = neither-none ids names None kinds bad refl
unread ids names n (word ∷ ws) kinds bad none = go (word_of word) refl
  where
    go : (w : Word) → word_of word ≡ w → Neither ids names (parts_of (Some n) (word ∷ ws)) kinds
    go Operand is = rw is (neither-option n word ids names (parts_of None ws) kinds bad none)
    go (Named id attached) is = neither-none ids names _ kinds bad (rw is refl)
    go End is = neither-none ids names _ kinds bad (rw is refl)
    go Stray is = neither-none ids names _ kinds bad (rw is refl)

module _ (name : Text) (c : List Rule) where
  abbrev here : Held → ℕ → List Text → Kinds
  here h p ws = faults name c (between h idle p false) ws

  abbrev rows : Held → ℕ → List Text → List Row
  rows h p ws = ended name c (between h idle p false) ws

  -- ---- A use that fails once it is settled

  step_settles : (h : Held) (p : ℕ) (ids : List Text) → Follow c p ids → step_fault (form_shape name c) p h value ≡ [] → settle_fault c false h ≡ []
  step_settles h p [] none e = absurd (step-stray name c h p none e)
  step_settles h p (id ∷ ids) places e =
      let place = places.0 in
      sym (step-operand name c h p id place.long place.index place.required place.by_index) ∙ e

  trailing_fails : (h : Held) (waiting : Waiting) (p : ℕ) (ids ws : List Text) → Follow c p ids → (settle_fault c false h ≡ [] → ⊥) → faults name c (between h waiting p true) ws ≡ [] → ⊥
  trailing_fails h waiting p ids [] places bad e = bad (sym (faults-nil name c (between h waiting p true)) ∙ e)
  trailing_fails h waiting p ids (word ∷ ws) places bad e = faults-stop name c (between h waiting p true) word ws (λ none. bad (step_settles h p ids places none)) e

  module _ (all : List Text) (options : HasOptions c all) where
    named_settles : (h : Held) (waiting : Waiting) (p : ℕ) (word id : Text) (given : Option Text) → bytes_eq word (codes "--") ≡ false → long_of word ≡ Some (id, given)
        → fault_at name c (between h waiting p false) word ≡ [] → settle_fault c false h ≡ []
    named_settles h waiting p word id given e is none = go (among id all) refl
      where
        go : (b : Bool) → among id all ≡ b → settle_fault c false h ≡ []
        go true has =
            let o = options.these id has in
            option_settles name c id o.long o.index o.required h waiting p word given e is o.by_long none
        go false has = absurd (unknown_option name c h waiting p word id given e is (options.no_other id has) none)

    idle_fails : (h : Held) (p : ℕ) (ids ws : List Text) → Follow c p ids → is_clean ws ≡ true → (settle_fault c false h ≡ [] → ⊥) → here h p ws ≡ [] → ⊥
    idle_fails h p ids [] places clean bad e = bad (sym (faults-nil name c (between h idle p false)) ∙ e)
    idle_fails h p ids (word ∷ ws) places clean bad none = go (lexed word) none
      where
        go : Lexed word → here h p (word ∷ ws) ≡ [] → ⊥
        go (operand is e long short) =
            faults-stop name c (between h idle p false) word ws (λ none. bad (step_settles h p ids places (sym (fault_at-operand name c h p word e long short) ∙ none)))
        go (named id attached is e long) =
            faults-stop name c (between h idle p false) word ws (λ none. bad (named_settles h idle p word id attached e long none))
        go (ends is e) = λ none.
            trailing_fails h idle p ids ws places bad
            (sym (faults-next name c (between h idle p false) (between h idle p true) word ws (fault_at-end name c h idle p word e) (walked-end name c h idle p word e)) ∙ none)
        go (stray is) = absurd (clean_stray (word_of word) (is_clean ws) is clean)

    -- ---- An option that waits for its value

    abbrev waits : Held → Text → ℕ → List Text → Kinds
    waits h n p ws = faults name c (between (pending h n []) (option n) p false) ws

    data Waited (h : Held) (n : Text) (p : ℕ) (ws : List Text) : Type 0 where
      refused : (waits h n p ws ≡ [] → ⊥) → parts_of (Some n) ws ≡ None → Waited h n p ws
      taken : (word : Text) (behind : List Text) → ws ≡ word ∷ behind
          → waits h n p ws ≡ here (pending h n (word ∷ [])) p behind
          → ended name c (between (pending h n []) (option n) p false) ws ≡ rows (pending h n (word ∷ [])) p behind
          → parts_of (Some n) ws ≡ with_option n word (parts_of None behind) → is_clean behind ≡ true → Waited h n p ws

    waited : (h : Held) (n : Text) (p : ℕ) (ids ws : List Text) → Follow c p ids → IsOption c n → is_clean ws ≡ true → Waited h n p ws
    waited h n p ids [] places o clean =
        refused (λ e. none-pending c n o.long o.index o.required h o.by_id (sym (faults-nil name c (between (pending h n []) (option n) p false)) ∙ e)) refl
    waited h n p ids (word ∷ ws) places o clean = go (lexed word)
      where
        bad : settle_fault c false (pending h n []) ≡ [] → ⊥
        bad = none-pending c n o.long o.index o.required h o.by_id

        go : Lexed word → Waited h n p (word ∷ ws)
        go (operand is e long short) =
            let start = between (pending h n []) (option n) p false in
            let next = between (pending h n (word ∷ [])) idle p false in
            let step = walked-value name c n o.long o.index o.required h p word e long short o.by_id in
            taken word ws refl
            (faults-next name c start next word ws (fault_at-value name c n o.long o.index o.required h p word e long short) step)
            (ended-next name c start next word ws step)
            (rw is refl) (clean_operand (word_of word) (is_clean ws) is clean)
        go (named id attached is e long) =
            refused (faults-stop name c (between (pending h n []) (option n) p false) word ws (λ none. bad (named_settles (pending h n []) (option n) p word id attached e long none)))
            (rw is refl)
        go (ends is e) =
            refused (λ none. trailing_fails (pending h n []) (option n) p ids ws places bad
            (sym (faults-next name c (between (pending h n []) (option n) p false) (between (pending h n []) (option n) p true) word ws
            (fault_at-end name c (pending h n []) (option n) p word e) (walked-end name c (pending h n []) (option n) p word e)) ∙ none))
            (rw is refl)
        go (stray is) = absurd (clean_stray (word_of word) (is_clean ws) is clean)

    -- ---- Words behind `--`

    trails : (ws : List Text) (uses : Uses) (ids names : List Text) (h : Held) (waiting : Waiting) (p : ℕ) → Holds c uses h → Stands c all uses ids names p
        → Verdict uses ids names (Some (record { operands = ws; options = [] })) (faults name c (between h waiting p true) ws) (ended name c (between h waiting p true) ws)
    trails [] uses ids names h waiting p holds s =
        both (both-nil uses ids names _ _ (faults-nil name c (between h waiting p true) ∙ holds.fault) holds.rows)
    trails (word ∷ ws) uses [] names h waiting p holds s =
        neither (neither-operand word names (Some (record { operands = ws; options = [] })) _
        (faults-stop name c (between h waiting p true) word ws (step-stray name c h p s.follow)))
    trails (word ∷ ws) uses (id ∷ ids) names h waiting p holds s =
        let place = s.follow.0 in
        let start = between h waiting p true in
        let position = min (p + 1) usize_max in
        let next = between (pending (settled c h) id (word ∷ [])) idle position true in
        let step : walked c [] start word ≡ next = walked-trailing name c h waiting p word ∙ rw place.by_index (to_positional-operand name c h waiting p true word id place.long place.index place.required) in
        let free : fault_at name c start word ≡ [] = step-operand name c h p id place.long place.index place.required place.by_index ∙ holds.fault in
        let fresh : given id uses ≡ false = s.fresh id (among-own id ids) in
        verdict-at uses (id ∷ ids) names _ _ _ _ _ _ refl (faults-next name c start next word ws free step) (ended-next name c start next word ws step)
        (verdict-operand uses id word ids names (Some (record { operands = ws; options = [] })) _ _
        (trails ws (uses ++ (id, word) ∷ []) ids names (pending (settled c h) id (word ∷ [])) idle position
        (holds-pending c id place.long place.index place.required uses (settled c h) word place.by_id holds.rows fresh)
        (stands-operand c all uses id word ids names p s)))

    -- ---- The words from the first on

    abbrev Walks : ℕ → Type 0
    Walks k = (ws : List Text) (uses : Uses) (ids names : List Text) (h : Held) (p : ℕ) → length ws ≤ k → is_clean ws ≡ true → Holds c uses h → Stands c all uses ids names p
        → Verdict uses ids names (parts_of None ws) (here h p ws) (rows h p ws)

    module _ (k : ℕ) (rest : Walks k) (word : Text) (ws : List Text) (uses : Uses) (ids names : List Text) (h : Held) (p : ℕ)
        (len : length ws ≤ k) (clean : is_clean (word ∷ ws) ≡ true) (holds : Holds c uses h) (s : Stands c all uses ids names p) where
      abbrev start : Rattle.clap.specs.Walk.Walk
      start = between h idle p false

      abbrev Turned : Type 0
      Turned = Verdict uses ids names (parts_of None (word ∷ ws)) (here h p (word ∷ ws)) (rows h p (word ∷ ws))

      turn_operand : (ids' : List Text) → ids ≡ ids' → word_of word ≡ Operand → bytes_eq word (codes "--") ≡ false → long_of word ≡ None → short_of word ≡ None → Turned
      turn_operand [] none is e long short =
          let s' = subst (λ (x : List Text). Stands c all uses x names p) none s in
          subst (λ (x : List Text). Verdict uses x names (parts_of None (word ∷ ws)) (here h p (word ∷ ws)) (rows h p (word ∷ ws))) (sym none)
          (neither (subst (λ (r : Option Parts). Neither [] names r (here h p (word ∷ ws))) (sym (ap (λ w. by_word None w word ws (λ waiting. parts_of waiting ws)) is))
          (neither-operand word names (parts_of None ws) (here h p (word ∷ ws))
          (faults-stop name c start word ws (λ f. step-stray name c h p s'.follow (sym (fault_at-operand name c h p word e long short) ∙ f))))))
      turn_operand (id ∷ ids') more is e long short =
          let s' = subst (λ (x : List Text). Stands c all uses x names p) more s in
          let place = s'.follow.0 in
          let position = min (p + 1) usize_max in
          let held = pending (settled c h) id (word ∷ []) in
          let next = between held idle position false in
          let step : walked c [] start word ≡ next = walked-operand name c h p word e long short
          ∙ rw place.by_index (to_positional-operand name c h idle p false word id place.long place.index place.required) in
          let free : fault_at name c start word ≡ [] = fault_at-operand name c h p word e long short
          ∙ step-operand name c h p id place.long place.index place.required place.by_index ∙ holds.fault in
          let fresh : given id uses ≡ false = s'.fresh id (among-own id ids') in
          subst (λ (x : List Text). Verdict uses x names (parts_of None (word ∷ ws)) (here h p (word ∷ ws)) (rows h p (word ∷ ws))) (sym more)
          (verdict-at uses (id ∷ ids') names (with_operand word (parts_of None ws)) (parts_of None (word ∷ ws)) _ _ _ _
          (ap (λ w. by_word None w word ws (λ waiting. parts_of waiting ws)) is)
          (faults-next name c start next word ws free step) (ended-next name c start next word ws step)
          (verdict-operand uses id word ids' names (parts_of None ws) _ _
          (rest ws (uses ++ (id, word) ∷ []) ids' names held position len (clean_operand (word_of word) (is_clean ws) is clean)
          (holds-pending c id place.long place.index place.required uses (settled c h) word place.by_id holds.rows fresh)
          (stands-operand c all uses id word ids' names p s'))))

      -- an option that is left hasn't been given, and the others have or are none
      left_is_fresh : (n : Text) → among n names ≡ true → (among n all ≡ true) × (given n uses ≡ false)
      left_is_fresh n has = go (among n all) (given n uses) (sym (s.left n) ∙ has)
        where
          go : (a g : Bool) → (a && not g) ≡ true → (a ≡ true) × (g ≡ false)
          go true false e = (refl, refl)
          go true true e = absurd (true≢false (sym e))
          go false g e = absurd (true≢false (sym e))

      not_left : (n : Text) → among n names ≡ false → among n all ≡ true → given n uses ≡ true
      not_left n none known = go (given n uses) (sym (s.left n ∙ ap (λ a. a && not (given n uses)) known) ∙ none)
        where
          go : (g : Bool) → (true && not g) ≡ false → g ≡ true
          go true e = refl
          go false e = absurd (true≢false e)

      turn_joined : (n v : Text) (b : Bool) → among n names ≡ b → word_of word ≡ Named n (Some v) → bytes_eq word (codes "--") ≡ false → long_of word ≡ Some (n, Some v) → Turned
      turn_joined n v true has is e long =
          let known = left_is_fresh n has in
          let o = options.these n known.0 in
          let held = reacted c (plain_rule n o.long o.index o.required) (v ∷ []) h in
          let next = between held idle p false in
          let step = walked-joined name c n o.long o.index o.required h p word v e long o.by_long in
          let free : fault_at name c start word ≡ [] = fault_at-joined name c n o.long o.index o.required h p word v e long o.by_long
          ∙ react_fault-fresh c n o.long o.index o.required uses h v holds known.1 in
          verdict-at uses ids names (with_option n v (parts_of None ws)) (parts_of None (word ∷ ws)) _ _ _ _
          (ap (λ w. by_word None w word ws (λ waiting. parts_of waiting ws)) is)
          (faults-next name c start next word ws free step) (ended-next name c start next word ws step)
          (verdict-option uses n v ids names (parts_of None ws) _ _ has (s.apart n known.0)
          (rest ws (uses ++ (n, v) ∷ []) ids (without n names) held p len (clean_named n (Some v) (word_of word) (is_clean ws) is clean)
          (holds-reacted c n o.long o.index o.required uses h v holds known.1)
          (stands-option c all uses n v ids names p s known.0)))
      turn_joined n v false none is e long =
          neither (subst (λ (r : Option Parts). Neither ids names r (here h p (word ∷ ws))) (sym (ap (λ w. by_word None w word ws (λ waiting. parts_of waiting ws)) is))
          (neither-option n v ids names (parts_of None ws) (here h p (word ∷ ws)) (faults-stop name c start word ws (go (among n all) refl)) none))
        where
          go : (b : Bool) → among n all ≡ b → fault_at name c start word ≡ [] → ⊥
          go true known f =
              let o = options.these n known in
              react_fault-again c n o.long o.index o.required uses h v holds (not_left n none known)
              (sym (fault_at-joined name c n o.long o.index o.required h p word v e long o.by_long) ∙ f)
          go false unknown f = unknown_option name c h idle p word n (Some v) e long (options.no_other n unknown) f

      turn_apart : (n : Text) → word_of word ≡ Named n None → bytes_eq word (codes "--") ≡ false → long_of word ≡ Some (n, None) → Turned
      turn_apart n is e long = go (among n all) refl
        where
          clean' : is_clean ws ≡ true
          clean' = clean_named n None (word_of word) (is_clean ws) is clean

          is_read : parts_of None (word ∷ ws) ≡ parts_of (Some n) ws
          is_read = ap (λ w. by_word None w word ws (λ waiting. parts_of waiting ws)) is

          known_apart : IsOption c n → among n all ≡ true → Turned
          known_apart o known =
              let next = between (pending (settled c h) n []) (option n) p false in
              let step = walked-apart name c n o.long o.index o.required h p word e long o.by_long in
              let free : fault_at name c start word ≡ [] = fault_at-apart name c n o.long o.index o.required h p word e long o.by_long ∙ holds.fault in
              verdict-at uses ids names (parts_of (Some n) ws) (parts_of None (word ∷ ws)) _ _ _ _ is_read
              (faults-next name c start next word ws free step) (ended-next name c start next word ws step)
              (by_waited (waited (settled c h) n p ids ws s.follow o clean') (among n names) refl)
            where
              by_waited : Waited (settled c h) n p ws → (b : Bool) → among n names ≡ b
                  → Verdict uses ids names (parts_of (Some n) ws) (waits (settled c h) n p ws) (ended name c (between (pending (settled c h) n []) (option n) p false) ws)
              by_waited (refused bad none) b left = neither (neither-none ids names _ _ bad none)
              by_waited (taken v behind cut kinds rows_are is_parts clean'') true left =
                  let shorter : length behind ≤ k = omega (arith, ap length cut) in
                  let fresh = (left_is_fresh n left).1 in
                  verdict-at uses ids names (with_option n v (parts_of None behind)) _ _ _ _ _ is_parts kinds rows_are
                  (verdict-option uses n v ids names (parts_of None behind) _ _ left (s.apart n known)
                  (rest behind (uses ++ (n, v) ∷ []) ids (without n names) (pending (settled c h) n (v ∷ [])) p shorter clean''
                  (holds-pending c n o.long o.index o.required uses (settled c h) v o.by_id holds.rows fresh)
                  (stands-option c all uses n v ids names p s known)))
              by_waited (taken v behind cut kinds rows_are is_parts clean'') false left =
                  verdict-at uses ids names (with_option n v (parts_of None behind)) _ _ _ _ _ is_parts kinds rows_are
                  (neither (neither-option n v ids names (parts_of None behind) _
                  (idle_fails (pending (settled c h) n (v ∷ [])) p ids behind s.follow clean''
                  (again-pending c n o.long o.index o.required uses (settled c h) v o.by_id holds.rows (not_left n left known))) left))

          go : (b : Bool) → among n all ≡ b → Turned
          go true known = known_apart (options.these n known) known
          go false unknown =
              let bad : here h p (word ∷ ws) ≡ [] → ⊥ = faults-stop name c start word ws (unknown_option name c h idle p word n None e long (options.no_other n unknown)) in
              let none : among n names ≡ false = s.left n ∙ ap (λ a. a && not (given n uses)) unknown in
              neither (subst (λ (r : Option Parts). Neither ids names r (here h p (word ∷ ws))) (sym is_read) (unread ids names n ws (here h p (word ∷ ws)) bad none))

      turn : Lexed word → Turned
      turn (operand is e long short) = turn_operand ids refl is e long short
      turn (named n (Some v) is e long) = turn_joined n v (among n names) refl is e long
      turn (named n None is e long) = turn_apart n is e long
      turn (ends is e) =
          let next = between h idle p true in
          let step = walked-end name c h idle p word e in
          verdict-at uses ids names (Some (record { operands = ws; options = [] })) (parts_of None (word ∷ ws)) _ _ _ _
          (ap (λ w. by_word None w word ws (λ waiting. parts_of waiting ws)) is)
          (faults-next name c start next word ws (fault_at-end name c h idle p word e) step) (ended-next name c start next word ws step)
          (trails ws uses ids names h idle p holds s)
      turn (stray is) = absurd (clean_stray (word_of word) (is_clean ws) is clean)

    pub walks : (k : ℕ) → Walks k
    walks k [] uses ids names h p len clean holds s = both (both-nil uses ids names _ _ (faults-nil name c (between h idle p false) ∙ holds.fault) holds.rows)
    walks zero (word ∷ ws) uses ids names h p len clean holds s = absurd (omega arith)
    walks (suc k) (word ∷ ws) uses ids names h p len clean holds s =
        turn k (walks k) word ws uses ids names h p (omega arith) clean holds s (lexed word)
