-- Counters along the tokens of a text, by the parts of the text.
use Rattle.std.proofs.Common.{◌≡◌, ◌⊎◌, inl, inr, ℕ, zero, suc, ◌+◌, ◌-◌, ◌≤◌, ◌<◌, Bool, true, false, nat_lt, max, List, [], ◌∷◌, ◌++◌, length, refl, sym, ap, subst, ◌∙◌, arith, if◌then◌else◌}
use Rattle.std.proofs.lemmas.Bool.{le-ltb, lt-ltb, false≢true}
use Rattle.affc_grammar.specs.Grammar.{Symbol}
use Rattle.affc_grammar.specs.Limits.{at_if, tokens_past, count_token, count_run, count_open, count_item, is_separator, is_opening, is_closing, is_item}

-- what a counter is behind some tokens, and the most that it is on the way
abbrev pub after : (ℕ → Symbol → ℕ) → ℕ → List Symbol → ℕ
after next n [] = n
after next n (s ∷ ss) = after next (next n s) ss

abbrev pub highest : (ℕ → Symbol → ℕ) → ℕ → List Symbol → ℕ
highest next n [] = n
highest next n (s ∷ ss) = max n (highest next (next n s) ss)

pub after_both : (next : ℕ → Symbol → ℕ) (n : ℕ) (xs ys : List Symbol) → after next n (xs ++ ys) ≡ after next (after next n xs) ys
after_both next n [] ys = refl
after_both next n (x ∷ xs) ys = after_both next (next n x) xs ys

from_on : (next : ℕ → Symbol → ℕ) (n : ℕ) (ss : List Symbol) → n ≤ highest next n ss
from_on next n [] = omega arith
from_on next n (s ∷ ss) = omega arith

pub highest_both : (next : ℕ → Symbol → ℕ) (n : ℕ) (xs ys : List Symbol) → highest next n (xs ++ ys) ≡ max (highest next n xs) (highest next (after next n xs) ys)
highest_both next n [] ys = let h = from_on next n ys in omega (arith, h)
highest_both next n (x ∷ xs) ys = let h = highest_both next (next n x) xs ys in omega (arith, h)

no_place : (b : Bool) (at : ℕ) (rest : List ℕ) → at_if b at ++ rest ≡ [] → b ≡ false
no_place true at rest e = absurd (cc)
no_place false at rest e = refl

no_rest : (b : Bool) (at : ℕ) (rest : List ℕ) → at_if b at ++ rest ≡ [] → rest ≡ []
no_rest true at rest e = absurd (cc)
no_rest false at rest e = e

pub not_below : (a b : ℕ) → nat_lt a b ≡ false → b ≤ a
not_below a b e = elim (order a b) [ inl h ↦ absurd (false≢true (sym e ∙ lt-ltb a b h)) | inr h ↦ h ]
  where
    order : (a b : ℕ) → (a < b) ⊎ (b ≤ a)
    order a zero = inr (omega arith)
    order zero (suc b) = inl (omega arith)
    order (suc a) (suc b) = elim (order a b) [ inl h ↦ inl (omega (arith, h)) | inr h ↦ inr (omega (arith, h)) ]

-- no token passes the limit exactly where the counter is never above it
pub none_past : (next : ℕ → Symbol → ℕ) (limit at n : ℕ) (ss : List Symbol) → n ≤ limit → tokens_past next limit at n ss ≡ [] → highest next n ss ≤ limit
none_past next limit at n [] le e = le
none_past next limit at n (s ∷ ss) le e =
    let rest = tokens_past next limit (at + 1) (next n s) ss in
    let here = not_below limit (next n s) (no_place (nat_lt limit (next n s)) at rest e) in
    let more = none_past next limit (at + 1) (next n s) ss here (no_rest (nat_lt limit (next n s)) at rest e) in
    omega (arith, le, more)

pub past_none : (next : ℕ → Symbol → ℕ) (limit at n : ℕ) (ss : List Symbol) → highest next n ss ≤ limit → tokens_past next limit at n ss ≡ []
past_none next limit at n [] h = refl
past_none next limit at n (s ∷ ss) h =
    let more : highest next (next n s) ss ≤ limit = omega (arith, h) in
    let up = from_on next (next n s) ss in
    let here : next n s ≤ limit = omega (arith, more, up) in
    ap (λ b. at_if b at ++ tokens_past next limit (at + 1) (next n s) ss) (le-ltb limit (next n s) here) ∙ past_none next limit (at + 1) (next n s) ss more

-- ---- Parts that add so many, that go up by so many and back, and that begin and end at 0

pub record Adds (next : ℕ → Symbol → ℕ) (k : ℕ) (ss : List Symbol) : Type 0 where
  pub behind : (n : ℕ) → after next n ss ≡ n + k
  pub most : (n : ℕ) → highest next n ss ≡ n + k

pub record Rises (next : ℕ → Symbol → ℕ) (k : ℕ) (ss : List Symbol) : Type 0 where
  pub behind : (n : ℕ) → after next n ss ≡ n
  pub most : (n : ℕ) → highest next n ss ≡ n + k

pub record Runs (k : ℕ) (ss : List Symbol) : Type 0 where
  pub behind : after count_run 0 ss ≡ 0
  pub most : highest count_run 0 ss ≡ k

pub adds_both : (next : ℕ → Symbol → ℕ) (a b : ℕ) (xs ys : List Symbol) → Adds next a xs → Adds next b ys → Adds next (a + b) (xs ++ ys)
adds_both next a b xs ys p q = record {
  behind = λ n. let e = after_both next n xs ys in let f = p.behind n in let g = q.behind (n + a) in
      e ∙ ap (λ m. after next m ys) f ∙ g ∙ (omega arith);
  most = λ n. let e = highest_both next n xs ys in let f = p.behind n in let g = q.most (n + a) in let h = p.most n in let i = ap (λ m. highest next m ys) f in omega (arith, e, f, g, h, i);
}

pub rises_both : (next : ℕ → Symbol → ℕ) (a b : ℕ) (xs ys : List Symbol) → Rises next a xs → Rises next b ys → Rises next (max a b) (xs ++ ys)
rises_both next a b xs ys p q = record {
  behind = λ n. after_both next n xs ys ∙ ap (λ m. after next m ys) (p.behind n) ∙ q.behind n;
  most = λ n. let e = highest_both next n xs ys in let g = q.most n in let h = p.most n in let i = ap (λ m. highest next m ys) (p.behind n) in omega (arith, e, g, h, i);
}

pub runs_both : (a b : ℕ) (xs ys : List Symbol) → Runs a xs → Runs b ys → Runs (max a b) (xs ++ ys)
runs_both a b xs ys p q = record {
  behind = after_both count_run 0 xs ys ∙ ap (λ m. after count_run m ys) p.behind ∙ q.behind;
  most = let e = highest_both count_run 0 xs ys in let g = q.most in let h = p.most in let i = ap (λ m. highest count_run m ys) p.behind in omega (arith, e, g, h, i);
}

-- ---- Single tokens

-- one that isn't counted apart
pub record IsPlain (s : Symbol) : Type 0 where
  pub separator : is_separator s ≡ false
  pub opening : is_opening s ≡ false
  pub closing : is_closing s ≡ false
  pub item : is_item s ≡ false

pub none_added : (next : ℕ → Symbol → ℕ) → Adds next 0 []
none_added next = record { behind = λ n. omega arith; most = λ n. omega arith }

pub none_risen : (next : ℕ → Symbol → ℕ) → Rises next 0 []
none_risen next = record { behind = λ n. refl; most = λ n. omega arith }

one_added : (next : ℕ → Symbol → ℕ) (k : ℕ) (s : Symbol) → ((n : ℕ) → next n s ≡ n + k) → Adds next k (s ∷ [])
one_added next k s h = record { behind = h; most = λ n. let e = h n in omega (arith, e) }

one_risen : (next : ℕ → Symbol → ℕ) (s : Symbol) → ((n : ℕ) → next n s ≡ n) → Rises next 0 (s ∷ [])
one_risen next s h = record { behind = h; most = λ n. let e = h n in omega (arith, e) }

-- ---- Tokens in a row, without `;` `{` `}` and line ends, and without the words `for` and `if`

pub record Row (tokens depth : ℕ) (ss : List Symbol) : Type 0 where
  pub token : Adds count_token tokens ss
  pub run : Adds count_run tokens ss
  pub item : Adds count_item 0 ss
  pub brackets : Rises count_open depth ss

pub no_row : Row 0 0 []
no_row = record { token = none_added count_token; run = none_added count_run; item = none_added count_item; brackets = none_risen count_open }

pub row_both : (a b d e : ℕ) (xs ys : List Symbol) → Row a d xs → Row b e ys → Row (a + b) (max d e) (xs ++ ys)
row_both a b d e xs ys p q = record {
  token = adds_both count_token a b xs ys p.token q.token;
  run = adds_both count_run a b xs ys p.run q.run;
  item = adds_both count_item 0 0 xs ys p.item q.item;
  brackets = rises_both count_open d e xs ys p.brackets q.brackets;
}

pub plain_row : (s : Symbol) → IsPlain s → Row 1 0 (s ∷ [])
plain_row s p = record {
  token = one_added count_token 1 s (λ n. refl);
  run = one_added count_run 1 s (λ n. ap (λ b. if b then 0 else n + 1) p.separator);
  item = one_added count_item 0 s (λ n. ap (λ b. if b then n + 1 else n) p.item ∙ (omega arith));
  brackets = one_risen count_open s (λ n. ap (λ b. if b then n + 1 else (if is_closing s then n - 1 else n)) p.opening ∙ ap (λ b. if b then n - 1 else n) p.closing);
}

pub row_more : (a d : ℕ) (s : Symbol) (ss : List Symbol) → IsPlain s → Row a d ss → Row (1 + a) d (s ∷ ss)
row_more a d s ss p r =
    let e : max 0 d ≡ d = omega arith in
    subst (λ m. Row (1 + a) m (s ∷ ss)) e (row_both 1 a 0 d (s ∷ []) ss (plain_row s p) r)

-- tokens in brackets
pub record AreBrackets (first last : Symbol) : Type 0 where
  pub opens : is_opening first ≡ true
  pub closes : is_closing last ≡ true
  pub no_opening : is_opening last ≡ false
  pub open_run : is_separator first ≡ false
  pub close_run : is_separator last ≡ false
  pub open_item : is_item first ≡ false
  pub close_item : is_item last ≡ false

brackets_rise : (first last : Symbol) (d : ℕ) (ss : List Symbol) → is_opening first ≡ true → is_closing last ≡ true → is_opening last ≡ false → Rises count_open d ss → Rises count_open (d + 1) (first ∷ (ss ++ last ∷ []))
brackets_rise first last d ss o shut other r = record {
  behind = λ n. ap (λ m. after count_open m (ss ++ last ∷ [])) (up n) ∙ after_both count_open (n + 1) ss (last ∷ []) ∙ ap (λ m. count_open m last) (r.behind (n + 1)) ∙ down n;
  most = λ n.
      let e = highest_both count_open (n + 1) ss (last ∷ []) in
      let f = r.most (n + 1) in
      let g = ap (λ m. highest count_open m (last ∷ [])) (r.behind (n + 1)) in
      let h = down n in
      let i = ap (λ m. highest count_open m (ss ++ last ∷ [])) (up n) in
      let j : highest count_open n (first ∷ (ss ++ last ∷ [])) ≡ max n (highest count_open (count_open n first) (ss ++ last ∷ [])) = refl in
      let k : highest count_open (n + 1) (last ∷ []) ≡ max (n + 1) (count_open (n + 1) last) = refl in
      omega (arith, e, f, g, h, i, j, k);
}
  where
    up : (n : ℕ) → count_open n first ≡ n + 1
    up n = ap (λ b. if b then n + 1 else (if is_closing first then n - 1 else n)) o

    down : (n : ℕ) → count_open (n + 1) last ≡ n
    down n = ap (λ b. if b then n + 1 + 1 else (if is_closing last then n + 1 - 1 else n + 1)) other ∙ ap (λ b. if b then n + 1 - 1 else n + 1) shut ∙ (omega arith)

pub row_in_brackets : (first last : Symbol) (a d : ℕ) (ss : List Symbol) → AreBrackets first last → Row a d ss → Row (a + 2) (d + 1) (first ∷ (ss ++ last ∷ []))
row_in_brackets first last a d ss b r =
    let two : 1 + (a + 1) ≡ a + 2 = omega arith in
    record {
      token = subst (λ m. Adds count_token m (first ∷ (ss ++ last ∷ []))) two (adds_both count_token 1 (a + 1) (first ∷ []) (ss ++ last ∷ []) (one_added count_token 1 first (λ n. refl)) (adds_both count_token a 1 ss (last ∷ []) r.token (one_added count_token 1 last (λ n. refl))));
      run = subst (λ m. Adds count_run m (first ∷ (ss ++ last ∷ []))) two (adds_both count_run 1 (a + 1) (first ∷ []) (ss ++ last ∷ []) (one_added count_run 1 first (λ n. ap (λ x. if x then 0 else n + 1) b.open_run))
          (adds_both count_run a 1 ss (last ∷ []) r.run (one_added count_run 1 last (λ n. ap (λ x. if x then 0 else n + 1) b.close_run))));
      item = adds_both count_item 0 0 (first ∷ []) (ss ++ last ∷ []) (one_added count_item 0 first (λ n. ap (λ x. if x then n + 1 else n) b.open_item ∙ (omega arith)))
          (adds_both count_item 0 0 ss (last ∷ []) r.item (one_added count_item 0 last (λ n. ap (λ x. if x then n + 1 else n) b.close_item ∙ (omega arith))));
      brackets = brackets_rise first last d ss b.opens b.closes b.no_opening r.brackets;
    }

-- ---- Lines and what ends with them

pub any_tokens : (ss : List Symbol) → Adds count_token (length ss) ss
any_tokens [] = none_added count_token
any_tokens (s ∷ ss) = record {
  behind = λ n. let r = (any_tokens ss).behind (n + 1) in omega (arith, r);
  most = λ n. let r = (any_tokens ss).most (n + 1) in omega (arith, r);
}

pub count_is : (k : ℕ) (ss : List Symbol) → Adds count_token k ss → length ss ≡ k
count_is k ss a = let p = a.behind 0 in let q = (any_tokens ss).behind 0 in omega (arith, p, q)

pub adds_after : (next : ℕ → Symbol → ℕ) (k n : ℕ) (xs ys : List Symbol) → Adds next k xs → after next n (xs ++ ys) ≡ after next (n + k) ys
adds_after next k n xs ys a = after_both next n xs ys ∙ ap (λ m. after next m ys) (a.behind n)

pub adds_most : (next : ℕ → Symbol → ℕ) (k n : ℕ) (xs ys : List Symbol) → Adds next k xs → highest next n (xs ++ ys) ≡ max (n + k) (highest next (n + k) ys)
adds_most next k n xs ys a = highest_both next n xs ys ∙ ap (λ m. max m (highest next (after next n xs) ys)) (a.most n) ∙ ap (λ m. max (n + k) (highest next m ys)) (a.behind n)

-- a run and the token that ends it
pub run_ends : (k : ℕ) (ss : List Symbol) (s : Symbol) → is_separator s ≡ true → Adds count_run k ss → Runs k (ss ++ s ∷ [])
run_ends k ss s e a =
    let zero_so : count_run (0 + k) s ≡ 0 = ap (λ b. if b then 0 else 0 + k + 1) e in
    let m = adds_most count_run k 0 ss (s ∷ []) a in
    record {
      behind = adds_after count_run k 0 ss (s ∷ []) a ∙ zero_so;
      most = m ∙ (omega (arith, zero_so));
    }

pub no_runs : Runs 0 []
no_runs = record { behind = refl; most = refl }

-- a token that is no bracket
pub record NoBracket (s : Symbol) : Type 0 where
  pub opening : is_opening s ≡ false
  pub closing : is_closing s ≡ false

pub bracket_kept : (n : ℕ) (s : Symbol) → NoBracket s → count_open n s ≡ n
bracket_kept n s p = ap (λ b. if b then n + 1 else (if is_closing s then n - 1 else n)) p.opening ∙ ap (λ b. if b then n - 1 else n) p.closing

pub rises_one : (s : Symbol) → NoBracket s → Rises count_open 0 (s ∷ [])
rises_one s p = one_risen count_open s (λ n. bracket_kept n s p)

pub rises_more : (k : ℕ) (s : Symbol) (ss : List Symbol) → NoBracket s → Rises count_open k ss → Rises count_open k (s ∷ ss)
rises_more k s ss p r =
    let e : max 0 k ≡ k = omega arith in
    subst (λ m. Rises count_open m (s ∷ ss)) e (rises_both count_open 0 k (s ∷ []) ss (rises_one s p) r)

pub rises_within : (k : ℕ) (first last : Symbol) (ss : List Symbol) → is_opening first ≡ true → is_closing last ≡ true → is_opening last ≡ false → Rises count_open k ss → Rises count_open (k + 1) (first ∷ (ss ++ last ∷ []))
rises_within k first last ss a b c r = brackets_rise first last k ss a b c r

pub items_more : (k : ℕ) (s : Symbol) (ss : List Symbol) → is_item s ≡ false → Adds count_item k ss → Adds count_item k (s ∷ ss)
items_more k s ss e a =
    let same : 0 + k ≡ k = omega arith in
    subst (λ m. Adds count_item m (s ∷ ss)) same (adds_both count_item 0 k (s ∷ []) ss (one_added count_item 0 s (λ n. ap (λ b. if b then n + 1 else n) e ∙ (omega arith))) a)

pub run_more : (k : ℕ) (s : Symbol) (ss : List Symbol) → is_separator s ≡ false → Adds count_run k ss → Adds count_run (1 + k) (s ∷ ss)
run_more k s ss e a = adds_both count_run 1 k (s ∷ []) ss (one_added count_run 1 s (λ n. ap (λ b. if b then 0 else n + 1) e)) a

pub items_one : (k : ℕ) (s : Symbol) (ss : List Symbol) → is_item s ≡ true → Adds count_item k ss → Adds count_item (k + 1) (s ∷ ss)
items_one k s ss e a =
    let same : 1 + k ≡ k + 1 = omega arith in
    subst (λ m. Adds count_item m (s ∷ ss)) same (adds_both count_item 1 k (s ∷ []) ss (one_added count_item 1 s (λ n. ap (λ b. if b then n + 1 else n) e)) a)
