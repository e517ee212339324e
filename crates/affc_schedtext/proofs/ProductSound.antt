-- What the pass finds are products of names.
use Rattle.std.proofs.Common.{◌≡◌, ℕ, suc, ◌+◌, Bool, true, false, ◌&&◌, ◌||◌, min, List, [], ◌∷◌, ◌++◌, length, codes, Option, Some, None, ◌⊎◌, inl, inr, refl, sym, ap, ◌∙◌, subst, arith, append_assoc, append-nil, if◌then◌else◌}
use Rattle.std.proofs.lemmas.Bool.{and_parts}
use Rattle.std.proofs.lemmas.List.{length-append}
use Rattle.std.proofs.lemmas.List.Folds.{list_any-append}
use Rattle.affc_lex.specs.Bytes.{same}
use Rattle.affc_lex.specs.declared.token.Kind.{Kind}
use Rattle.affc_lex.specs.declared.token.Kind.TheVariants as k
use Rattle.affc_grammar.specs.Grammar.{Symbol, word, number, mark, IxText, TermText, FactorText, AtomText, term, plus, minus, factor, times, atom, negated, literal, name, grouped, ix_symbols, term_symbols, factor_symbols, atom_symbols}
use Rattle.affc_grammar.proofs.Tests.{same_bytes}
use Rattle.affc_schedtext.specs.Grammar.{is_name, hold_names, IsProduct}
use Rattle.affc_schedtext.specs.declared.products.Sign.{Sign}
use Rattle.affc_schedtext.specs.declared.products.Sign.TheVariants.{Name, Number, Opening, Closing, Star, Plus, Minus, Other}
use Rattle.affc_schedtext.specs.declared.products.Place.{Place}
use Rattle.affc_schedtext.specs.declared.products.Place.TheVariants.{Behind, Before}
use Rattle.affc_schedtext.specs.declared.products.Level.{Level}
use Rattle.affc_schedtext.specs.Products.{sign_of_mark, sign_of, unfit, term_behind, can_take, behind_atom, closed_by, behind_star, behind_plus, behind_minus, is_whole, Walk, lesser, at_level, with_atom, opened, closed, turn, walked, start}

-- ---- Tokens

abbrev pub IsSign : Sign → Symbol → Type 0
IsSign Name s = s ≡ word s.bytes
IsSign Number s = s ≡ number s.bytes
IsSign Opening s = s ≡ mark (codes "(")
IsSign Closing s = s ≡ mark (codes ")")
IsSign Star s = s ≡ mark (codes "*")
IsSign Plus s = s ≡ mark (codes "+")
IsSign Minus s = s ≡ mark (codes "-")
IsSign Other s = Unit {0}

pick : (bytes text : List ℕ) (p q : Sign) → (bytes ≡ text → IsSign p (mark bytes)) → IsSign q (mark bytes) → IsSign (if same bytes text then p else q) (mark bytes)
pick bytes text p q f g = by (same bytes text) refl
  where
    by : (b : Bool) → same bytes text ≡ b → IsSign (if b then p else q) (mark bytes)
    by true e = f (same_bytes bytes text e)
    by false e = g

mark_is : (bytes : List ℕ) → IsSign (sign_of_mark bytes) (mark bytes)
mark_is bytes =
    pick bytes (codes "(") Opening _ (λ e. ap mark e)
    (pick bytes (codes ")") Closing _ (λ e. ap mark e)
    (pick bytes (codes "*") Star _ (λ e. ap mark e)
    (pick bytes (codes "+") Plus _ (λ e. ap mark e)
    (pick bytes (codes "-") Minus Other (λ e. ap mark e) tt))))

pub sign_is : (s : Symbol) → IsSign (sign_of s) s
sign_is s = by s.kind s.bytes
  where
    by : (kind : Kind) (bytes : List ℕ) → IsSign (sign_of (record { kind = kind; bytes = bytes })) (record { kind = kind; bytes = bytes })
    by k.Word bytes = refl
    by k.Number bytes = refl
    by k.Mark bytes = mark_is bytes
    by _ bytes = tt

-- ---- Names

or_false : (b : Bool) → (b || false) ≡ b
or_false true = refl
or_false false = refl

pub names_more : (xs ys : List Symbol) → hold_names (xs ++ ys) ≡ (hold_names xs || hold_names ys)
names_more xs ys = list_any-append is_name xs ys

mark_more : (xs : List Symbol) (bytes : List ℕ) → hold_names (xs ++ mark bytes ∷ []) ≡ hold_names xs
mark_more xs bytes = names_more xs (mark bytes ∷ []) ∙ or_false (hold_names xs)

pub still_names : (xs ys : List Symbol) → hold_names xs ≡ true → hold_names (xs ++ ys) ≡ true
still_names xs ys e = names_more xs ys ∙ ap (λ b. b || hold_names ys) e

pub grouped_names : (a : IxText false) → hold_names (atom_symbols (grouped a)) ≡ hold_names (ix_symbols a)
grouped_names a = mark_more (ix_symbols a) (codes ")")

-- ---- Where the tokens end

abbrev pub sign_symbols : Bool → List Symbol
sign_symbols true = mark (codes "-") ∷ []
sign_symbols false = []

-- a term with names stands at the end
pub record TermEnds (read : List Symbol) : Type 0 where
  pub front : List Symbol
  pub left : TermText false
  pub stands : read ≡ front ++ term_symbols left
  pub names : hold_names (term_symbols left) ≡ true

-- such a term, the `*` of this number, and the sign of a factor
pub record StarEnds (read : List Symbol) (signed : Bool) (at : ℕ) : Type 0 where
  pub front : List Symbol
  pub left : TermText false
  pub stands : read ≡ front ++ (term_symbols left ++ mark (codes "*") ∷ sign_symbols signed)
  pub names : hold_names (term_symbols left) ≡ true
  pub its_place : at ≡ length front + length (term_symbols left)

abbrev pub PlaceIs : List Symbol → Place → Type 0
PlaceIs read (Behind true) = TermEnds read
PlaceIs read (Behind false) = Unit {0}
PlaceIs read (Before None signed) = Unit {0}
PlaceIs read (Before (Some at) signed) = StarEnds read signed at

-- with a factor, or behind its sign with an atom, this is an expression
abbrev pub CanTake : List Symbol → Bool → Type 0
CanTake seg false = (f : FactorText false) → (a : IxText false) × (ix_symbols a ≡ seg ++ factor_symbols f)
CanTake seg true = (f : AtomText false) → (a : IxText false) × (ix_symbols a ≡ seg ++ atom_symbols f)

abbrev pub FitIs : List Symbol → Place → Type 0
FitIs seg (Behind named) = (a : IxText false) × (ix_symbols a ≡ seg)
FitIs seg (Before star signed) = CanTake seg signed

-- `seg` are the tokens of the level, at the end of all
pub record LevelIs (read seg : List Symbol) (l : Level) : Type 0 where
  pub place : PlaceIs read l.place
  pub fit : l.fits ≡ true → FitIs seg l.place
  pub names : l.fits ≡ true → hold_names seg ≡ l.names

level_unfit : (read seg : List Symbol) (l : Level) → LevelIs read seg (unfit l)
level_unfit read seg l = record { place = tt; fit = λ e. absurd (cc); names = λ e. absurd (cc) }

-- ---- Behind an atom

signed_factor : Bool → AtomText false → FactorText false
signed_factor true a = negated a
signed_factor false a = atom a

signed_symbols : (signed : Bool) (a : AtomText false) → factor_symbols (signed_factor signed a) ≡ sign_symbols signed ++ atom_symbols a
unfolding signed_factor
signed_symbols true a = refl
signed_symbols false a = refl

longer : (front xs : List Symbol) (s : Symbol) (ys zs : List Symbol) → (front ++ (xs ++ s ∷ ys)) ++ zs ≡ front ++ (xs ++ s ∷ (ys ++ zs))
longer front xs s ys zs = append_assoc front (xs ++ s ∷ ys) zs ∙ ap (λ l. front ++ l) (append_assoc xs (s ∷ ys) zs)

place_behind : (read : List Symbol) (p : Place) (a : AtomText false) (b : Bool) → hold_names (atom_symbols a) ≡ b → PlaceIs read p → PlaceIs (read ++ atom_symbols a) (term_behind p b)
place_behind read (Behind t) a true e h = record { front = read; left = factor (atom a); stands = refl; names = e }
place_behind read (Behind t) a false e h = tt
place_behind read (Before None signed) a true e h = record { front = read; left = factor (atom a); stands = refl; names = e }
place_behind read (Before None signed) a false e h = tt
place_behind read (Before (Some at) signed) a b e h = record {
  front = h.front;
  left = times h.left (signed_factor signed a);
  stands =
      ap (λ l. l ++ atom_symbols a) h.stands ∙ longer h.front (term_symbols h.left) (mark (codes "*")) (sign_symbols signed) (atom_symbols a)
      ∙ ap (λ l. h.front ++ (term_symbols h.left ++ mark (codes "*") ∷ l)) (sym (signed_symbols signed a));
  names = still_names (term_symbols h.left) (mark (codes "*") ∷ factor_symbols (signed_factor signed a)) h.names;
}

fit_behind : (seg : List Symbol) (fits : Bool) (p : Place) (a : AtomText false) (b : Bool) → (fits ≡ true → FitIs seg p) → (fits && can_take p) ≡ true → FitIs (seg ++ atom_symbols a) (term_behind p b)
fit_behind seg fits (Behind t) a b h e = absurd (let p = (and_parts fits false e).1 in cc)
fit_behind seg fits (Before star false) a b h e = h (and_parts fits true e).0 (atom a)
fit_behind seg fits (Before star true) a b h e = h (and_parts fits true e).0 a

atom_behind : (read seg : List Symbol) (l : Level) (a : AtomText false) (b : Bool) → hold_names (atom_symbols a) ≡ b → LevelIs read seg l → LevelIs (read ++ atom_symbols a) (seg ++ atom_symbols a) (behind_atom l b)
atom_behind read seg l a b e h = record {
  place = place_behind read l.place a b e h.place;
  fit = λ q. fit_behind seg l.fits l.place a b h.fit q;
  names = λ q. names_more seg (atom_symbols a) ∙ ap (λ x. x || hold_names (atom_symbols a)) (h.names (and_parts l.fits (can_take l.place) q).0) ∙ ap (λ x. l.names || x) e;
}

-- ---- Behind marks

times_last : IxText false → FactorText false → IxText false
times_last (term t) f = term (times t f)
times_last (plus a t) f = plus a (times t f)
times_last (minus a t) f = minus a (times t f)

times_symbols : (a : IxText false) (f : FactorText false) → ix_symbols (times_last a f) ≡ ix_symbols a ++ mark (codes "*") ∷ factor_symbols f
unfolding times_last
times_symbols (term t) f = refl
times_symbols (plus a t) f = sym (append_assoc (ix_symbols a) (mark (codes "+") ∷ term_symbols t) (mark (codes "*") ∷ factor_symbols f))
times_symbols (minus a t) f = sym (append_assoc (ix_symbols a) (mark (codes "-") ∷ term_symbols t) (mark (codes "*") ∷ factor_symbols f))

-- an expression, and a mark with which it goes on
goes_on : (seg : List Symbol) (a : IxText false) (s : Symbol) (on : FactorText false → IxText false) → ix_symbols a ≡ seg → ((f : FactorText false) → ix_symbols (on f) ≡ ix_symbols a ++ s ∷ factor_symbols f) → CanTake (seg ++ s ∷ []) false
goes_on seg a s on e h f = (on f, h f ∙ ap (λ l. l ++ s ∷ factor_symbols f) e ∙ sym (append_assoc seg (s ∷ []) (factor_symbols f)))

star_place : (read : List Symbol) (at : ℕ) (named : Bool) → at ≡ length read → PlaceIs read (Behind named) → PlaceIs (read ++ mark (codes "*") ∷ []) (Before (if named then Some at else None) false)
star_place read at true e h = record {
  front = h.front;
  left = h.left;
  stands = ap (λ l. l ++ mark (codes "*") ∷ []) h.stands ∙ append_assoc h.front (term_symbols h.left) (mark (codes "*") ∷ []);
  names = h.names;
  its_place = e ∙ ap length h.stands ∙ length-append h.front (term_symbols h.left);
}
star_place read at false e h = tt

star_behind : (read seg : List Symbol) (at : ℕ) (fits names : Bool) (p : Place) → at ≡ length read → LevelIs read seg (record { fits = fits; names = names; place = p })
    → LevelIs (read ++ mark (codes "*") ∷ []) (seg ++ mark (codes "*") ∷ []) (behind_star at (record { fits = fits; names = names; place = p }) p)
star_behind read seg at fits names (Behind named) e h = record {
  place = star_place read at named e h.place;
  fit = λ q. let a = h.fit q in goes_on seg a.0 (mark (codes "*")) (times_last a.0) a.1 (times_symbols a.0);
  names = λ q. mark_more seg (codes "*") ∙ h.names q;
}
star_behind read seg at fits names (Before star signed) e h = level_unfit (read ++ mark (codes "*") ∷ []) (seg ++ mark (codes "*") ∷ []) (record { fits = fits; names = names; place = Before star signed })

plus_behind : (read seg : List Symbol) (fits names : Bool) (p : Place) → LevelIs read seg (record { fits = fits; names = names; place = p })
    → LevelIs (read ++ mark (codes "+") ∷ []) (seg ++ mark (codes "+") ∷ []) (behind_plus (record { fits = fits; names = names; place = p }) p)
plus_behind read seg fits names (Behind named) h = record {
  place = tt;
  fit = λ q. let a = h.fit q in goes_on seg a.0 (mark (codes "+")) (λ f. plus a.0 (factor f)) a.1 (λ f. refl);
  names = λ q. mark_more seg (codes "+") ∙ h.names q;
}
plus_behind read seg fits names (Before star signed) h = level_unfit (read ++ mark (codes "+") ∷ []) (seg ++ mark (codes "+") ∷ []) (record { fits = fits; names = names; place = Before star signed })

sign_place : (read : List Symbol) (star : Option ℕ) → PlaceIs read (Before star false) → PlaceIs (read ++ mark (codes "-") ∷ []) (Before star true)
sign_place read None h = tt
sign_place read (Some at) h = record {
  front = h.front;
  left = h.left;
  stands = ap (λ l. l ++ mark (codes "-") ∷ []) h.stands ∙ longer h.front (term_symbols h.left) (mark (codes "*")) [] (mark (codes "-") ∷ []);
  names = h.names;
  its_place = h.its_place;
}

minus_behind : (read seg : List Symbol) (fits names : Bool) (p : Place) → LevelIs read seg (record { fits = fits; names = names; place = p })
    → LevelIs (read ++ mark (codes "-") ∷ []) (seg ++ mark (codes "-") ∷ []) (behind_minus (record { fits = fits; names = names; place = p }) p)
minus_behind read seg fits names (Behind named) h = record {
  place = tt;
  fit = λ q. let a = h.fit q in goes_on seg a.0 (mark (codes "-")) (λ f. minus a.0 (factor f)) a.1 (λ f. refl);
  names = λ q. mark_more seg (codes "-") ∙ h.names q;
}
minus_behind read seg fits names (Before star false) h = record {
  place = sign_place read star h.place;
  fit = λ q a. let t = h.fit q (negated a) in (t.0, t.1 ∙ sym (append_assoc seg (mark (codes "-") ∷ []) (atom_symbols a)));
  names = λ q. mark_more seg (codes "-") ∙ h.names q;
}
minus_behind read seg fits names (Before star true) h = level_unfit (read ++ mark (codes "-") ∷ []) (seg ++ mark (codes "-") ∷ []) (record { fits = fits; names = names; place = Before star true })

-- ---- All levels

abbrev pub IsStack : List Level → Level → List Symbol → Type 0
IsStack [] l read = LevelIs read read l
IsStack (o ∷ os) l read = (before : List Symbol) × (seg : List Symbol) × (read ≡ before ++ mark (codes "(") ∷ seg) × IsStack os o before × LevelIs read seg l

on_level : (os : List Level) (l m : Level) (read more : List Symbol) → ((seg : List Symbol) → LevelIs read seg l → LevelIs (read ++ more) (seg ++ more) m) → IsStack os l read → IsStack os m (read ++ more)
on_level [] l m read more f h = f read h
on_level (o ∷ os) l m read more f h = (h.0, h.1 ++ more, ap (λ r. r ++ more) h.2 ∙ append_assoc h.0 (mark (codes "(") ∷ h.1) more, h.3, f h.1 h.4)

-- ---- What was found

product_more : (read more : List Symbol) (at : ℕ) → IsProduct read at → IsProduct (read ++ more) at
product_more read more at p = record {
  front = p.front;
  left = p.left;
  right = p.right;
  others = p.others ++ more;
  stands =
      ap (λ l. l ++ more) p.stands
      ∙ longer p.front (term_symbols p.left) (mark (codes "*")) (factor_symbols p.right ++ p.others) more
      ∙ ap (λ l. p.front ++ (term_symbols p.left ++ mark (codes "*") ∷ l)) (append_assoc (factor_symbols p.right) p.others more);
  left_names = p.left_names;
  right_names = p.right_names;
  its_place = p.its_place;
}

abbrev pub FoundIs : List Symbol → Option ℕ → Type 0
FoundIs read None = Unit {0}
FoundIs read (Some at) = IsProduct read at

found_more : (read more : List Symbol) (o : Option ℕ) → FoundIs read o → FoundIs (read ++ more) o
found_more read more None h = tt
found_more read more (Some at) h = product_more read more at h

lesser_found : (read : List Symbol) (a b : Option ℕ) → FoundIs read a → FoundIs read b → FoundIs read (lesser a b)
lesser_found read None b h k = k
lesser_found read (Some a) None h k = h
lesser_found read (Some a) (Some b) h k = elim (either_one a b) [ inl e ↦ subst (IsProduct read) (sym e) h | inr e ↦ subst (IsProduct read) (sym e) k ]
  where
    either_one : (a b : ℕ) → (min a b ≡ a) ⊎ (min a b ≡ b)
    either_one a b = grind arith

signed_names : (signed : Bool) (a : AtomText false) → hold_names (atom_symbols a) ≡ true → hold_names (factor_symbols (signed_factor signed a)) ≡ true
unfolding signed_factor
signed_names true a e = e
signed_names false a e = e

atom_found : (read : List Symbol) (p : Place) (a : AtomText false) (b : Bool) → hold_names (atom_symbols a) ≡ b → PlaceIs read p → FoundIs (read ++ atom_symbols a) (closed_by p b)
atom_found read (Behind t) a b e h = tt
atom_found read (Before star signed) a false e h = tt
atom_found read (Before None signed) a true e h = tt
atom_found read (Before (Some at) signed) a true e h = record {
  front = h.front;
  left = h.left;
  right = signed_factor signed a;
  others = [];
  stands =
      ap (λ l. l ++ atom_symbols a) h.stands ∙ longer h.front (term_symbols h.left) (mark (codes "*")) (sign_symbols signed) (atom_symbols a)
      ∙ ap (λ l. h.front ++ (term_symbols h.left ++ mark (codes "*") ∷ l)) (sym (signed_symbols signed a) ∙ sym (append-nil (factor_symbols (signed_factor signed a))));
  left_names = h.names;
  right_names = signed_names signed a e;
  its_place = h.its_place;
}

-- ---- The pass

pub record Sound (read : List Symbol) (w : Walk) : Type 0 where
  pub stack : IsStack w.outer w.level read
  pub found : FoundIs read w.found

place_of_stack : (os : List Level) (l : Level) (read : List Symbol) → IsStack os l read → PlaceIs read l.place
place_of_stack [] l read h = h.place
place_of_stack (o ∷ os) l read h = h.4.place

atom_sound : (read : List Symbol) (w : Walk) (a : AtomText false) (b : Bool) → hold_names (atom_symbols a) ≡ b → IsStack w.outer w.level read → FoundIs (read ++ atom_symbols a) w.found → Sound (read ++ atom_symbols a) (with_atom w b)
atom_sound read w a b e s f = record {
  stack = on_level w.outer w.level (behind_atom w.level b) read (atom_symbols a) (λ seg h. atom_behind read seg w.level a b e h) s;
  found = lesser_found (read ++ atom_symbols a) w.found (closed_by w.level.place b) f (atom_found read w.level.place a b e (place_of_stack w.outer w.level read s));
}

level_sound : (read more : List Symbol) (w : Walk) (m : Level) → ((seg : List Symbol) → LevelIs read seg w.level → LevelIs (read ++ more) (seg ++ more) m) → Sound read w → Sound (read ++ more) (at_level w m)
level_sound read more w m f s = record {
  stack = on_level w.outer w.level m read more f s.stack;
  found = found_more read more w.found s.found;
}

-- ---- Brackets

opened_sound : (read : List Symbol) (w : Walk) → Sound read w → Sound (read ++ mark (codes "(") ∷ []) (opened w)
opened_sound read w s = record {
  stack = (read, [], refl, s.stack, record { place = tt; fit = λ e f. (term (factor f), refl); names = λ e. refl });
  found = found_more read (mark (codes "(") ∷ []) w.found s.found;
}

whole : (read seg : List Symbol) (fits names : Bool) (p : Place) → LevelIs read seg (record { fits = fits; names = names; place = p }) → is_whole (record { fits = fits; names = names; place = p }) ≡ true
    → (a : IxText false) × (ix_symbols a ≡ seg) × (hold_names (ix_symbols a) ≡ names)
whole read seg fits names (Behind named) h e = let a = h.fit e in (a.0, a.1, ap hold_names a.1 ∙ h.names e)
whole read seg fits names (Before star signed) h e = absurd (cc)

closed_sound : (os : List Level) (l : Level) (found : Option ℕ) (read : List Symbol) → IsStack os l read → FoundIs read found → Sound (read ++ mark (codes ")") ∷ []) (closed os (record { outer = os; level = l; found = found }))
closed_sound [] l found read h f = record {
  stack = level_unfit (read ++ mark (codes ")") ∷ []) (read ++ mark (codes ")") ∷ []) l;
  found = found_more read (mark (codes ")") ∷ []) found f;
}
closed_sound (o ∷ os) l found read h f = by (is_whole l) refl
  where
    outside : Walk
    outside = record { outer = os; level = o; found = found }

    more : FoundIs (read ++ mark (codes ")") ∷ []) found
    more = found_more read (mark (codes ")") ∷ []) found f

    same : read ++ mark (codes ")") ∷ [] ≡ h.0 ++ mark (codes "(") ∷ (h.1 ++ mark (codes ")") ∷ [])
    same = ap (λ r. r ++ mark (codes ")") ∷ []) h.2 ∙ append_assoc h.0 (mark (codes "(") ∷ h.1) (mark (codes ")") ∷ [])

    by : (b : Bool) → is_whole l ≡ b → Sound (read ++ mark (codes ")") ∷ []) (if b then with_atom (record { outer = os; level = o; found = found }) l.names else at_level (record { outer = os; level = o; found = found }) (unfit o))
    by true e =
        let a = whole read h.1 l.fits l.names l.place h.4 e in
        let all : read ++ mark (codes ")") ∷ [] ≡ h.0 ++ atom_symbols (grouped a.0) = same ∙ ap (λ seg. h.0 ++ mark (codes "(") ∷ (seg ++ mark (codes ")") ∷ [])) (sym a.1) in
        subst (λ r. Sound r (with_atom (record { outer = os; level = o; found = found }) l.names)) (sym all)
        (atom_sound h.0 (record { outer = os; level = o; found = found }) (grouped a.0) l.names (grouped_names a.0 ∙ a.2) h.3 (subst (λ r. FoundIs r found) all more))
    by false e = record {
      stack = subst (IsStack os (unfit o)) (sym same) (on_level os o (unfit o) h.0 (mark (codes "(") ∷ (h.1 ++ mark (codes ")") ∷ [])) (λ seg k. level_unfit (h.0 ++ mark (codes "(") ∷ (h.1 ++ mark (codes ")") ∷ [])) (seg ++ mark (codes "(") ∷ (h.1 ++ mark (codes ")") ∷ [])) o) h.3);
      found = more;
    }

-- ---- All symbols

turn_sound : (read : List Symbol) (w : Walk) (s : Symbol) → Sound read w → Sound (read ++ s ∷ []) (turn (length read) w (sign_of s))
turn_sound read w s h = by (sign_of s) (sign_is s)
  where
    by : (p : Sign) → IsSign p s → Sound (read ++ s ∷ []) (turn (length read) w p)
    by Name e = subst (λ x. Sound (read ++ x ∷ []) (with_atom w true)) (sym e) (atom_sound read w (name s.bytes) true refl h.stack (found_more read (word s.bytes ∷ []) w.found h.found))
    by Number e = subst (λ x. Sound (read ++ x ∷ []) (with_atom w false)) (sym e) (atom_sound read w (literal s.bytes) false refl h.stack (found_more read (number s.bytes ∷ []) w.found h.found))
    by Opening e = subst (λ x. Sound (read ++ x ∷ []) (opened w)) (sym e) (opened_sound read w h)
    by Closing e = subst (λ x. Sound (read ++ x ∷ []) (closed w.outer w)) (sym e) (closed_sound w.outer w.level w.found read h.stack h.found)
    by Star e = subst (λ x. Sound (read ++ x ∷ []) (turn (length read) w Star)) (sym e) (level_sound read (mark (codes "*") ∷ []) w (behind_star (length read) w.level w.level.place) (λ seg k. star_behind read seg (length read) w.level.fits w.level.names w.level.place refl k) h)
    by Plus e = subst (λ x. Sound (read ++ x ∷ []) (turn (length read) w Plus)) (sym e) (level_sound read (mark (codes "+") ∷ []) w (behind_plus w.level w.level.place) (λ seg k. plus_behind read seg w.level.fits w.level.names w.level.place k) h)
    by Minus e = subst (λ x. Sound (read ++ x ∷ []) (turn (length read) w Minus)) (sym e) (level_sound read (mark (codes "-") ∷ []) w (behind_minus w.level w.level.place) (λ seg k. minus_behind read seg w.level.fits w.level.names w.level.place k) h)
    by Other e = level_sound read (s ∷ []) w (unfit w.level) (λ seg k. level_unfit (read ++ s ∷ []) (seg ++ s ∷ []) w.level) h

pub walked_sound : (ss read : List Symbol) (w : Walk) → Sound read w → Sound (read ++ ss) (walked (length read) w ss)
walked_sound [] read w h = subst (λ r. Sound r w) (sym (append-nil read)) h
walked_sound (s ∷ ss) read w h =
    let next = turn (length read) w (sign_of s) in
    let one : length (read ++ s ∷ []) ≡ suc (length read) = length-append read (s ∷ []) ∙ omega arith in
    let k = walked_sound ss (read ++ s ∷ []) next (turn_sound read w s h) in
    subst (λ n. Sound (read ++ s ∷ ss) (walked n next ss)) one (subst (λ r. Sound r (walked (length (read ++ s ∷ [])) next ss)) (append_assoc read (s ∷ []) ss) k)

pub start_sound : Sound [] start
start_sound = record { stack = record { place = tt; fit = λ e f. (term (factor f), refl); names = λ e. refl }; found = tt }
