-- The first product of names among symbols, found in one pass. The public contract speaks of `IsProduct`, and of none of this.
use Rattle.std.specs.Prelude.{ℕ, suc, Bool, true, false, ◌&&◌, ◌||◌, min, List, [], ◌∷◌, codes, Option, Some, None, reverse, is_some, if◌then◌else◌}
use Rattle.affc_lex.specs.Bytes.{same}
use Rattle.affc_grammar.specs.Grammar.{Symbol, is_word_kind, is_mark_kind}
use Rattle.affc_grammar.specs.Reading.{is_number_kind}
use Rattle.affc_schedtext.specs.declared.products.Sign.{Sign}
use Rattle.affc_schedtext.specs.declared.products.Sign.TheVariants.{Name, Number, Opening, Closing, Star, Plus, Minus, Other}
use Rattle.affc_schedtext.specs.declared.products.Place.{Place}
use Rattle.affc_schedtext.specs.declared.products.Place.TheVariants.{Behind, Before}
use Rattle.affc_schedtext.specs.declared.products.Level.{Level}
use Rattle.affc_schedtext.specs.declared.products.Walk as code

abbrev pub sign_of_mark : List ℕ → Sign
sign_of_mark bytes =
    if same bytes (codes "(") then Opening
    else if same bytes (codes ")") then Closing
    else if same bytes (codes "*") then Star
    else if same bytes (codes "+") then Plus
    else if same bytes (codes "-") then Minus
    else Other

abbrev pub sign_of : Symbol → Sign
sign_of s = if is_word_kind s.kind then Name else if is_number_kind s.kind then Number else if is_mark_kind s.kind then sign_of_mark s.bytes else Other

abbrev pub fresh : Level
fresh = record { fits = true; names = false; place = Before None false }

-- ---- What stands behind another token

abbrev pub unfit : Level → Level
unfit l = record { fits = false; names = l.names; place = Before None false }

abbrev pub term_behind : Place → Bool → Place
term_behind (Behind before) named = Behind named
term_behind (Before star signed) named = Behind (is_some star || named)

abbrev pub can_take : Place → Bool
can_take (Behind before) = false
can_take (Before star signed) = true

abbrev pub behind_atom : Level → Bool → Level
behind_atom l named = record { fits = l.fits && can_take l.place; names = l.names || named; place = term_behind l.place named }

-- the `*` of the product that is complete with an atom
abbrev pub closed_by : Place → Bool → Option ℕ
closed_by (Behind before) named = None
closed_by (Before star signed) named = if named then star else None

abbrev pub behind_star : ℕ → Level → Place → Level
behind_star at l (Behind named) = record { fits = l.fits; names = l.names; place = Before (if named then Some at else None) false }
behind_star at l (Before star signed) = unfit l

abbrev pub behind_plus : Level → Place → Level
behind_plus l (Behind named) = record { fits = l.fits; names = l.names; place = Before None false }
behind_plus l (Before star signed) = unfit l

abbrev pub behind_minus : Level → Place → Level
behind_minus l (Behind named) = record { fits = l.fits; names = l.names; place = Before None false }
behind_minus l (Before star false) = record { fits = l.fits; names = l.names; place = Before star true }
behind_minus l (Before star true) = unfit l

-- whether an expression stands there
abbrev pub is_whole : Level → Bool
is_whole l = elim l.place [ Behind named ↦ l.fits | Before star signed ↦ false ]

-- ---- The pass

pub record Walk : Type 0 where
  -- the levels round this one, from the inside to the outside
  pub outer : List Level
  pub level : Level
  pub found : Option ℕ

abbrev pub lesser : Option ℕ → Option ℕ → Option ℕ
lesser None o = o
lesser (Some a) None = Some a
lesser (Some a) (Some b) = Some (min a b)

abbrev pub at_level : Walk → Level → Walk
at_level w l = record { outer = w.outer; level = l; found = w.found }

abbrev pub with_atom : Walk → Bool → Walk
with_atom w named = record { outer = w.outer; level = behind_atom w.level named; found = lesser w.found (closed_by w.level.place named) }

abbrev pub opened : Walk → Walk
opened w = record { outer = w.level ∷ w.outer; level = fresh; found = w.found }

abbrev pub with_brackets : Level → Walk → Walk
with_brackets inside w = if is_whole inside then with_atom w inside.names else at_level w (unfit w.level)

abbrev pub closed : List Level → Walk → Walk
closed [] w = at_level w (unfit w.level)
closed (o ∷ os) w = with_brackets w.level (record { outer = os; level = o; found = w.found })

abbrev pub turn : ℕ → Walk → Sign → Walk
turn at w Name = with_atom w true
turn at w Number = with_atom w false
turn at w Opening = opened w
turn at w Closing = closed w.outer w
turn at w Star = at_level w (behind_star at w.level w.level.place)
turn at w Plus = at_level w (behind_plus w.level w.level.place)
turn at w Minus = at_level w (behind_minus w.level w.level.place)
turn at w Other = at_level w (unfit w.level)

-- `at` is the number of the first of these symbols
abbrev pub walked : (at : ℕ) → Walk → List Symbol → Walk
walked at w [] = w
walked at w (s ∷ ss) = walked (suc at) (turn at w (sign_of s)) ss

abbrev pub start : Walk
start = record { outer = []; level = fresh; found = None }

abbrev pub walk_seen : code.Walk → Walk
walk_seen w = record { outer = reverse w.outer.items; level = w.level; found = w.found }
