-- Frames sent are a function of the pairs put: what a sender holds after some pairs, and what each further one lets go.
use Rattle.std.proofs.Common.{◌≡◌, ℕ, zero, suc, ◌+◌, ◌-◌, ◌<◌, ◌≤◌, List, [], ◌∷◌, ◌++◌, map, length, get_or, ℤ, Some, None, Option, sym, refl, ap, ◌∙◌, subst, ⊎_elim, append_assoc, arith, length-append}
use Rattle.std.proofs.lemmas.List.{get_or_append_left, get_or-append_right}
use Rattle.std.proofs.lemmas.Bool.{cases_lt, lt-ltb, le-ltb, cond-true, cond-false}
use Rattle.words.specs.Meaning.{middle}
use Rattle.frames.specs.Frame.{Pair, frame, frame_of, before}
use Rattle.frames.specs.Content.{Listed, listed}
use Rattle.pairs.specs.Sending.{sent_pair}
use Rattle.circuit.specs.Putting.{Source, Put, pair_from, fresh_source, accepting, putting, putting_words}
use Rattle.circuit.specs.History.{Event, puts, puts_words, takes, loses, Outgoing, outgoing, joined, sending, codes, FramesAreTheStandards}
use Rattle.circuit.proofs.Weaving.{frame_from_lists}
use Rattle.circuit.proofs.Moves.{Move, idle, accepted, put_moves, words_move}

abbrev Pairs : Type 0
Pairs = List (List ℤ)

-- pairs that come later change no code of those before them
module _ (ps ys : Pairs) where
  code_extends : (k : ℕ) → k + 1 < length ps → codes ps k ≡ codes (ps ++ ys) k
  code_extends k h =
      sym (ap (λ (x : List ℤ). sent_pair x (get_or (ps ++ ys) (k + 1) [])) (get_or_append_left ps ys [] k (omega arith))
      ∙ ap (λ (x : List ℤ). sent_pair (get_or ps k []) x) (get_or_append_left ps ys [] (k + 1) h))

  before_extends : (M e : ℕ) → 1 ≤ e → M < length ps → before (codes ps) M e ≡ before (codes (ps ++ ys)) M e
  before_extends M e p h =
      ⊎_elim
      (λ (lt : M < e). cond-true _ _ _ (lt-ltb M e lt) ∙ sym (cond-true _ _ _ (lt-ltb M e lt)))
      (λ (ge : e ≤ M). cond-false _ _ _ (le-ltb M e ge) ∙ code_extends (M - e) (omega arith) ∙ sym (cond-false _ _ _ (le-ltb M e ge)))
      (cases_lt M e)

  pub frame_extends : (M : ℕ) → M + 1 < length ps → frame (codes ps) M ≡ frame (codes (ps ++ ys)) M
  frame_extends M h =
      ap (λ (p : Pair). frame_of p (before (codes ps) M 1) (before (codes ps) M 2)) (code_extends M h)
      ∙ ap (λ (p : Pair). frame_of (codes (ps ++ ys) M) p (before (codes ps) M 2)) (before_extends M 1 (omega arith) (omega arith))
      ∙ ap (λ (p : Pair). frame_of (codes (ps ++ ys) M) (before (codes (ps ++ ys)) M 1) p) (before_extends M 2 (omega arith) (omega arith))

-- what a sender holds after some pairs
pub record After (s : Source) (ps : Pairs) : Type 0 where
  pub none : length ps ≡ 0 → s.held ≡ None
  pub last : (m : ℕ) → length ps ≡ m + 1 → s.held ≡ Some (get_or ps m [])
  pub one : s.one ≡ listed (before (codes ps) (length ps - 1) 1)
  pub two : s.two ≡ listed (before (codes ps) (length ps - 1) 2)

pub after_none : After fresh_source []
after_none = record { none = λ e. refl; last = λ m e. absurd (omega arith); one = refl; two = refl }

-- one pair more
module _ (s : Source) (ps : Pairs) (a : After s ps) (v : List ℤ) where
  more : Pairs
  more = ps ++ (v ∷ [])

  size : length (ps ++ (v ∷ [])) ≡ length ps + 1
  size = length-append ps (v ∷ [])

  newest : (m : ℕ) → m ≡ length ps → get_or (ps ++ (v ∷ [])) m [] ≡ v
  newest m e =
      let z : m - length ps ≡ 0 = omega arith in
      get_or-append_right ps (v ∷ []) (length ps) m [] refl (omega arith) ∙ ap (λ (k : ℕ). get_or (v ∷ []) k []) z

  after_first : length ps ≡ 0 → After (record { held = Some v; one = s.one; two = s.two }) (ps ++ (v ∷ []))
  after_first e =
      let y : length (ps ++ (v ∷ [])) - 1 ≡ 0 = omega (arith, size) in
      let x : length ps - 1 ≡ 0 = omega arith in
      record {
        none = λ q. absurd (omega (arith, size));
        last = λ m q. ap Some (sym (newest m (omega (arith, size))));
        one = a.one ∙ ap (λ (k : ℕ). listed (before (codes ps) k 1)) x ∙ sym (ap (λ (k : ℕ). listed (before (codes (ps ++ (v ∷ []))) k 1)) y);
        two = a.two ∙ ap (λ (k : ℕ). listed (before (codes ps) k 2)) x ∙ sym (ap (λ (k : ℕ). listed (before (codes (ps ++ (v ∷ []))) k 2)) y);
      }

  module _ (m : ℕ) (n : length ps ≡ m + 1) where
    own : sent_pair (get_or ps m []) v ≡ codes (ps ++ (v ∷ [])) m
    own =
        sym (ap (λ (x : List ℤ). sent_pair x (get_or (ps ++ (v ∷ [])) (m + 1) [])) (get_or_append_left ps (v ∷ []) [] m (omega arith))
        ∙ ap (λ (x : List ℤ). sent_pair (get_or ps m []) x) (newest (m + 1) (omega arith)))

    back_one : before (codes ps) (length ps - 1) 1 ≡ before (codes (ps ++ (v ∷ []))) m 1
    back_one = let x : length ps - 1 ≡ m = omega arith in ap (λ (k : ℕ). before (codes ps) k 1) x ∙ before_extends ps (v ∷ []) m 1 (omega arith) (omega arith)

    back_two : before (codes ps) (length ps - 1) 2 ≡ before (codes (ps ++ (v ∷ []))) m 2
    back_two = let x : length ps - 1 ≡ m = omega arith in ap (λ (k : ℕ). before (codes ps) k 2) x ∙ before_extends ps (v ∷ []) m 2 (omega arith) (omega arith)

    -- one step back from the next pair is two steps back from the one after it
    older : before (codes (ps ++ (v ∷ []))) m 1 ≡ before (codes (ps ++ (v ∷ []))) (m + 1) 2
    older =
        let C = codes (ps ++ (v ∷ [])) in
        ⊎_elim
        (λ (lt : m < 1). cond-true _ _ _ (lt-ltb m 1 lt) ∙ sym (cond-true _ _ _ (lt-ltb (m + 1) 2 (omega arith))))
        (λ (ge : 1 ≤ m). let k : m - 1 ≡ m + 1 - 2 = omega arith in cond-false _ _ _ (le-ltb m 1 ge) ∙ ap C k ∙ sym (cond-false _ _ _ (le-ltb (m + 1) 2 (omega arith))))
        (cases_lt m 1)

    newer : codes (ps ++ (v ∷ [])) m ≡ before (codes (ps ++ (v ∷ []))) (m + 1) 1
    newer =
        let C = codes (ps ++ (v ∷ [])) in
        let k : m ≡ m + 1 - 1 = omega arith in
        ap C k ∙ sym (cond-false _ _ _ (le-ltb (m + 1) 1 (omega arith)))

    after_later : After (record { held = Some v; one = listed (sent_pair (get_or ps m []) v); two = s.one }) (ps ++ (v ∷ []))
    after_later =
        let y : m + 1 ≡ length (ps ++ (v ∷ [])) - 1 = omega (arith, size) in
        let C = codes (ps ++ (v ∷ [])) in
        record {
          none = λ q. absurd (omega (arith, size));
          last = λ k q. ap Some (sym (newest k (omega (arith, size))));
          one = ap listed (own ∙ newer) ∙ ap (λ (k : ℕ). listed (before C k 1)) y;
          two = a.one ∙ ap listed (back_one ∙ older) ∙ ap (λ (k : ℕ). listed (before C k 2)) y;
        }

    written : frame_of (sent_pair (get_or ps m []) v) (pair_from s.one) (pair_from s.two) ≡ frame (codes (ps ++ (v ∷ []))) m
    written =
        let C = codes (ps ++ (v ∷ [])) in
        ap (λ (l : Listed). frame_of (sent_pair (get_or ps m []) v) (pair_from l) (pair_from s.two)) (a.one ∙ ap listed back_one)
        ∙ ap (λ (l : Listed). frame_of (sent_pair (get_or ps m []) v) (pair_from (listed (before C m 1))) (pair_from l)) (a.two ∙ ap listed back_two)
        ∙ sym (frame_from_lists (sent_pair (get_or ps m []) v) (before C m 1) (before C m 2))
        ∙ ap (λ (p : Pair). frame_of p (before C m 1) (before C m 2)) own

-- frames and pairs from here on, after the pairs ps
abbrev Right : Pairs → Outgoing → Type 0
Right ps out = (N : ℕ) → N < length out.frames → get_or out.frames N [] ≡ frame (codes (ps ++ out.pairs)) ((length ps - 1) + N)

module _ (s : Source) (ps : Pairs) (a : After s ps) (v : List ℤ) (room : List ℕ) (rest : Source → Outgoing)
    (on : (t : Source) (qs : Pairs) → After t qs → Right qs (rest t)) where
  -- the pair is held, the first one
  first : length ps ≡ 0 → Right ps (joined (outgoing (accepting s room None v) v) (rest (accepting s room None v).source))
  first e N h =
      let t = (accepting s room None v).source in
      let x : (length (ps ++ (v ∷ [])) - 1) + N ≡ (length ps - 1) + N = omega (arith, size s ps a v) in
      on t (ps ++ (v ∷ [])) (after_first s ps a v e) N h
      ∙ ap (λ (qs : Pairs). frame (codes qs) ((length (ps ++ (v ∷ [])) - 1) + N)) (append_assoc ps (v ∷ []) (rest t).pairs)
      ∙ ap (frame (codes (ps ++ (v ∷ (rest t).pairs)))) x

  -- the frame of the pair before it is written
  later : (m : ℕ) → length ps ≡ m + 1 → Right ps (joined (outgoing (accepting s room (Some (get_or ps m [])) v) v) (rest (accepting s room (Some (get_or ps m [])) v).source))
  later m n zero h =
      let t = (accepting s room (Some (get_or ps m [])) v).source in
      let x : m ≡ (length ps - 1) + 0 = omega arith in
      written s ps a v m n ∙ frame_extends (ps ++ (v ∷ [])) (rest t).pairs m (omega (arith, size s ps a v))
      ∙ ap (λ (qs : Pairs). frame (codes qs) m) (append_assoc ps (v ∷ []) (rest t).pairs)
      ∙ ap (frame (codes (ps ++ (v ∷ (rest t).pairs)))) x
  later m n (suc N) h =
      let t = (accepting s room (Some (get_or ps m [])) v).source in
      let x : (length (ps ++ (v ∷ [])) - 1) + N ≡ (length ps - 1) + suc N = omega (arith, size s ps a v) in
      on t (ps ++ (v ∷ [])) (after_later s ps a v m n) N (omega arith)
      ∙ ap (λ (qs : Pairs). frame (codes qs) ((length (ps ++ (v ∷ [])) - 1) + N)) (append_assoc ps (v ∷ []) (rest t).pairs)
      ∙ ap (frame (codes (ps ++ (v ∷ (rest t).pairs)))) x

  taken : (n : ℕ) → length ps ≡ n → Right ps (joined (outgoing (accepting s room s.held v) v) (rest (accepting s room s.held v).source))
  taken zero e = subst (λ (o : Option (List ℤ)). Right ps (joined (outgoing (accepting s room o v) v) (rest (accepting s room o v).source))) (sym (a.none e)) (first e)
  taken (suc m) e =
      let n : length ps ≡ m + 1 = omega arith in
      subst (λ (o : Option (List ℤ)). Right ps (joined (outgoing (accepting s room o v) v) (rest (accepting s room o v).source))) (sym (a.last m n)) (later m n)

  moved : (put : Put) → Move s room v put → Right ps (joined (outgoing put v) (rest put.source))
  moved put (idle n p l e) = subst (λ (q : Put). Right ps (joined (outgoing q v) (rest q.source))) (sym e) (on s ps a)
  moved put (accepted f i e) = subst (λ (q : Put). Right ps (joined (outgoing q v) (rest q.source))) (sym e) (taken (length ps) refl)

whole : (es : List Event) (s : Source) (ps : Pairs) → After s ps → Right ps (sending s es)
whole [] s ps a = λ N h. absurd (omega arith)
whole (puts samples room ∷ es) s ps a = moved s ps a samples room (λ t. sending t es) (whole es) (putting s room samples) (put_moves s room samples)
whole (puts_words law words room ∷ es) s ps a = moved s ps a (map (middle law) words) room (λ t. sending t es) (whole es) (putting_words s room law words) (words_move s room law words)
whole (takes octets words ∷ es) s ps a = whole es s ps a
whole (loses words ∷ es) s ps a = whole es s ps a

pub frames_are_the_standards : (h : List Event) → FramesAreTheStandards h
frames_are_the_standards h N lt =
    let x : (length {A = List ℤ} [] - 1) + N ≡ N = omega arith in
    whole h fresh_source [] after_none N lt ∙ ap (frame (codes (sending fresh_source h).pairs)) x
