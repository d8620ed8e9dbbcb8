-- Lists written in order, one element or two octets at a time; and numbers read back from their octets.
use Rattle.std.proofs.Common.{◌≡◌, ℕ, zero, suc, ◌+◌, ◌*◌, ◌/◌, ◌%◌, ◌<◌, ◌≤◌, List, [], ◌∷◌, ◌++◌, length, get_or, drop, set, sym, refl, ap, ◌∙◌, arith}
use Rattle.std.proofs.lemmas.List.{append-nil, append_assoc, drop_all, drop_more, set_at, ext_get_or, length_push, flat_map_more}
use Rattle.std.proofs.lemmas.List.FromFn.{get_or-map-range_with_len}
use Rattle.raw.specs.Octets.{number_at, octets_of, octets_in, numbers_in}

module _ {X : Type 0} (xs ys zs : List X) (n : ℕ) (y : ys ≡ xs ++ drop n zs) where
  -- one more element after xs
  pub put_one : (a : X) → length xs ≡ n → n < length zs → set ys n a ≡ (xs ++ a ∷ []) ++ drop (n + 1) zs
  put_one a e h =
      ap (λ l. set l n a) (y ∙ ap (λ l. xs ++ l) (drop_more zs n a h))
      ∙ set_at xs (get_or zs n a) (drop (n + 1) zs) a n e
      ∙ sym (append_assoc xs (a ∷ []) (drop (n + 1) zs))

  -- nothing is left of the old elements
  pub put_all : length zs ≤ n → ys ≡ xs
  put_all h = y ∙ ap (λ l. xs ++ l) (drop_all n zs h) ∙ append-nil xs

pub length_octets : (ns : List ℕ) → length (octets_in ns) ≡ 2 * length ns
length_octets [] = refl
length_octets (n ∷ ns) = omega (arith, length_octets ns)

-- the two octets of the number x after those of the numbers ns
pub put_octets : (ns : List ℕ) (x : ℕ) (ys zs : List ℕ) (i : ℕ) → length ns ≡ i → 2 * i + 1 < length zs → ys ≡ octets_in ns ++ drop (2 * i) zs → set (set ys (2 * i) (x / 256)) (2 * i + 1) (x % 256) ≡ octets_in (ns ++ x ∷ []) ++ drop (2 * (i + 1)) zs
put_octets ns x ys zs i e h y =
    let n : length (octets_in ns) ≡ 2 * i = omega (arith, length_octets ns) in
    let high = put_one (octets_in ns) ys zs (2 * i) y (x / 256) n (omega arith) in
    let m : length (octets_in ns ++ x / 256 ∷ []) ≡ 2 * i + 1 = length_push (octets_in ns) (x / 256) ∙ ap (λ k. k + 1) n in
    put_one (octets_in ns ++ x / 256 ∷ []) (set ys (2 * i) (x / 256)) zs (2 * i + 1) high (x % 256) m h
    ∙ ap (λ l. l ++ drop (2 * i + 1 + 1) zs) (append_assoc (octets_in ns) (x / 256 ∷ []) (x % 256 ∷ []) ∙ flat_map_more octets_of [] ns x)
    ∙ ap (λ k. octets_in (ns ++ x ∷ []) ++ drop k zs) (omega arith)

-- the octets of number k
pub high_octet : (ns : List ℕ) (k : ℕ) → k < length ns → get_or (octets_in ns) (2 * k) 0 ≡ get_or ns k 0 / 256
high_octet [] k h = absurd (omega arith)
high_octet (n ∷ ns) zero h = refl
high_octet (n ∷ ns) (suc k) h =
    let e : 2 * suc k ≡ suc (suc (2 * k)) = omega arith in
    ap (λ j. get_or (octets_in (n ∷ ns)) j 0) e ∙ high_octet ns k (omega arith)

pub low_octet : (ns : List ℕ) (k : ℕ) → k < length ns → get_or (octets_in ns) (2 * k + 1) 0 ≡ get_or ns k 0 % 256
low_octet [] k h = absurd (omega arith)
low_octet (n ∷ ns) zero h = refl
low_octet (n ∷ ns) (suc k) h =
    let e : 2 * suc k + 1 ≡ suc (suc (2 * k + 1)) = omega arith in
    ap (λ j. get_or (octets_in (n ∷ ns)) j 0) e ∙ low_octet ns k (omega arith)

-- what is written is read back
pub read_back : (ns : List ℕ) → length ns ≡ 64 → numbers_in (octets_in ns) ≡ ns
read_back ns e =
    let f = number_at (octets_in ns) in
    ext_get_or 0 (numbers_in (octets_in ns)) ns (sym e)
    (λ k h.
    get_or-map-range_with_len f 0 64 k k 0 h (omega arith)
    ∙ omega (arith, high_octet ns k (omega arith), low_octet ns k (omega arith)))
