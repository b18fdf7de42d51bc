-- Each word of a run's output, by its offset.
use Prim.Native.Nat.{ℕ, zero, suc, ◌+◌, ◌*◌, ◌-◌, ◌≤◌, ◌<◌}
use mathlib.Core.Path.{◌≡◌, refl, sym, ap, ap₂, ◌∙◌, subst}
use mathlib.Core.List.{List, [], ◌∷◌, ◌++◌}
use native.Mathlib.Omega.{arith}
use lib.ListN.{length, get_or, drop, length-append, get_or-append}
use lib.Seq.{sets, sets-eq, length-sets, get_or-append-add, drop_at}
use Rattle.masks.specs.Mask.{held, items}
use Rattle.masks.proofs.Counts.{items_length, items_iff, items_distinct}
use Rattle.format.specs.Words.{word_at, bytes_of}
use Rattle.format.proofs.PutRuns.{bytes_length}
use Rattle.steps.specs.declared.Thread.{Thread}
use Rattle.steps.specs.declared.Made.{Made}
use Rattle.steps.specs.Threads.{no_thread, no_made}
use Rattle.choices.specs.Choices.{Ran}
use Rattle.steps.specs.Beside.{made_words}
use Rattle.running.specs.Run.{thread_words, ran_words}
use Rattle.running.proofs.PutLaws.{made_words_length}
use Rattle.reading_exact.specs.Lists.{All}
use Rattle.reading_exact.specs.File.{InCount}
use Rattle.running_exact.specs.Output.{RolesHeld, made_place, thread_place, state_bytes, MadeAt, ThreadAt, Written}

-- the words of bytes are those that the bytes are of
bytes_word : (ws : List ℕ) (k : ℕ) → k < length ws → (rest : List ℕ) → word_at (bytes_of ws ++ rest) k ≡ get_or ws k 0
unfolding bytes_of
bytes_word [] k h rest = let never : ⊥ = omega arith in absurd never
bytes_word (w ∷ ws) zero h rest = omega arith
bytes_word (w ∷ ws) (suc k) h rest =
    let low : 2 * suc k ≡ suc (suc (2 * k)) = omega arith in
    let high : 2 * suc k + 1 ≡ suc (suc (2 * k + 1)) = omega arith in
    let l : List ℕ = bytes_of (w ∷ ws) ++ rest in
    ap₂ (λ (a b : ℕ). get_or l a 0 + 256 * get_or l b 0) low high ∙ bytes_word ws k (omega arith) rest

-- words put at the front of an output
module _ (ws old : List ℕ) (fits : 2 * length ws ≤ length old) where
  abbrev over : List ℕ
  over = sets old 0 (bytes_of ws)

  over-is : over ≡ bytes_of ws ++ drop (2 * length ws) old
  over-is =
      let at : 0 + length (bytes_of ws) ≡ 2 * length ws = omega (arith, bytes_length ws) in
      sets-eq (bytes_of ws) old 0 (omega (arith, at)) ∙ ap (λ (k : ℕ). bytes_of ws ++ drop k old) at

  pub over_word : (k : ℕ) → k < length ws → word_at over k ≡ get_or ws k 0
  over_word k h = ap (λ (l : List ℕ). word_at l k) over-is ∙ bytes_word ws k h (drop (2 * length ws) old)

  over_past : drop (2 * length ws) over ≡ drop (2 * length ws) old
  over_past = ap (drop (2 * length ws)) over-is ∙ drop_at (bytes_of ws) (drop (2 * length ws) old) (2 * length ws) (bytes_length ws)

-- the words of each made channel
made_word : (ms : List Made) (k : ℕ) → k < length ms → (rest : List ℕ)
    → (get_or (made_words ms ++ rest) (2 * k) 0 ≡ (get_or ms k no_made).owner) × (get_or (made_words ms ++ rest) (2 * k + 1) 0 ≡ (get_or ms k no_made).kind.0)
unfolding made_words
made_word [] k h rest = let never : ⊥ = omega arith in absurd never
made_word (m ∷ ms) zero h rest = (refl, refl)
made_word (m ∷ ms) (suc k) h rest =
    let low : 2 * suc k ≡ suc (suc (2 * k)) = omega arith in
    let high : 2 * suc k + 1 ≡ suc (suc (2 * k + 1)) = omega arith in
    let (a, b) = made_word ms k (omega arith) rest in
    let l : List ℕ = made_words (m ∷ ms) ++ rest in
    (ap (λ (x : ℕ). get_or l x 0) low ∙ a, ap (λ (x : ℕ). get_or l x 0) high ∙ b)

-- a thread has eight variables
abbrev pub Eight : Thread → Type 0
Eight t = length t.vars ≡ 8

thread_words_length : (ts : List Thread) → All Eight ts → length (thread_words ts) ≡ 12 * length ts
unfolding thread_words
thread_words_length [] h = refl
thread_words_length (t ∷ ts) (e, h) = omega (arith, e, length-append t.vars (thread_words ts), thread_words_length ts h)

-- the twelve words of a thread
abbrev twelve : Thread → List ℕ
twelve t = t.user ∷ t.node ∷ t.mask ∷ held 16 t.mask ∷ t.vars

-- word v of thread k
thread_word : (ts : List Thread) → All Eight ts → (k : ℕ) → k < length ts → (v : ℕ) → v < 12
    → get_or (thread_words ts) (12 * k + v) 0 ≡ get_or (twelve (get_or ts k no_thread)) v 0
unfolding thread_words
thread_word [] h k l v i = let never : ⊥ = omega arith in absurd never
thread_word (t ∷ ts) (e, h) zero l v i =
    let at : 12 * 0 + v ≡ v = omega arith in
    ap (λ (x : ℕ). get_or (twelve t ++ thread_words ts) x 0) at ∙ get_or-append (twelve t) (thread_words ts) 0 v (omega (arith, e, i))
thread_word (t ∷ ts) (e, h) (suc k) l v i =
    let at : 12 * suc k + v ≡ length (twelve t) + (12 * k + v) = omega (arith, e) in
    ap (λ (x : ℕ). get_or (twelve t ++ thread_words ts) x 0) at ∙ get_or-append-add (twelve t) (thread_words ts) (12 * k + v) 0 ∙ thread_word ts h k (omega arith) v i

-- the count of a mask's roles
pub roles_held : (m : ℕ) → RolesHeld m (held 16 m)
roles_held m = (
  items 16 m,
  items_distinct 16 m,
  λ r. (λ d. let (a, b, c) = (items_iff 16 m r).0 d in ((a, b), c), λ ((a, b), c). (items_iff 16 m r).1 (a, b, c)),
  items_length 16 m,
)

module _ (r : Ran) (eights : All Eight r.state.threads) (few_threads : length r.state.threads ≤ 64) (few_made : length r.state.made ≤ 64) where
  abbrev ts : List Thread
  ts = r.state.threads

  abbrev ms : List Made
  ms = r.state.made

  abbrev four : List ℕ
  four = r.count ∷ r.refusal ∷ length ts ∷ length ms ∷ []

  -- how many words there are
  pub words_length : 2 * length (ran_words r) ≡ state_bytes (length ms) (length ts)
  unfolding ran_words
  words_length = omega (arith, length-append (made_words ms) (thread_words ts), made_words_length ms, thread_words_length ts eights)

  -- words of a made channel, and of a thread
  made_at : (k : ℕ) → k < length ms → (get_or (ran_words r) (4 + 2 * k) 0 ≡ (get_or ms k no_made).owner) × (get_or (ran_words r) (4 + 2 * k + 1) 0 ≡ (get_or ms k no_made).kind.0)
  unfolding ran_words
  made_at k h =
      let tail : List ℕ = made_words ms ++ thread_words ts in
      let (a, b) = made_word ms k h (thread_words ts) in
      let e : 4 + 2 * k + 1 ≡ 4 + (2 * k + 1) = omega arith in
      (get_or-append-add four tail (2 * k) 0 ∙ a, ap (λ (x : ℕ). get_or (four ++ tail) x 0) e ∙ get_or-append-add four tail (2 * k + 1) 0 ∙ b)

  thread_at : (k : ℕ) → k < length ts → (v : ℕ) → v < 12 → get_or (ran_words r) (4 + 2 * length ms + 12 * k + v) 0 ≡ get_or (twelve (get_or ts k no_thread)) v 0
  unfolding ran_words
  thread_at k h v i =
      let tail : List ℕ = made_words ms ++ thread_words ts in
      let e : 4 + 2 * length ms + 12 * k + v ≡ 4 + (length (made_words ms) + (12 * k + v)) = omega (arith, made_words_length ms) in
      ap (λ (x : ℕ). get_or (four ++ tail) x 0) e ∙ get_or-append-add four tail (length (made_words ms) + (12 * k + v)) 0
      ∙ get_or-append-add (made_words ms) (thread_words ts) (12 * k + v) 0 ∙ thread_word ts eights k h v i

  module _ (old : List ℕ) (room : 1800 ≤ length old) where
    abbrev out : List ℕ
    out = sets old 0 (bytes_of (ran_words r))

    size : state_bytes (length ms) (length ts) ≤ 1800
    size = omega (arith, few_threads, few_made)

    fits : 2 * length (ran_words r) ≤ length old
    fits = omega (arith, words_length, size, room)

    word : (k : ℕ) → k < 4 + 2 * length ms + 12 * length ts → word_at out k ≡ get_or (ran_words r) k 0
    word k h = over_word (ran_words r) old fits k (omega (arith, words_length))

    head_word : (k : ℕ) → k < 4 → word_at out k ≡ get_or four k 0
    unfolding ran_words
    head_word k h = word k (omega (arith, h)) ∙ get_or-append four (made_words ms ++ thread_words ts) 0 k h

    each_made : (j : ℕ) → InCount (length ms) j → MadeAt out (made_place j) (get_or ms (j - 1) no_made)
    each_made j n =
        let (a, b) = made_at (j - 1) (omega (arith, n)) in
        (word (made_place j) (omega (arith, n)) ∙ a, word (made_place j + 1) (omega (arith, n)) ∙ b)

    -- word v of thread i, from its place p on
    thread_out : (i : ℕ) → InCount (length ts) i → (v : ℕ) → v < 12 → (p : ℕ) → p ≡ thread_place (length ms) i + v → word_at out p ≡ get_or (twelve (get_or ts (i - 1) no_thread)) v 0
    thread_out i n v l p e =
        ap (word_at out) e ∙ word (thread_place (length ms) i + v) (omega (arith, n, l)) ∙ thread_at (i - 1) (omega (arith, n)) v l

    each_thread : (i : ℕ) → InCount (length ts) i → ThreadAt out (thread_place (length ms) i) (get_or ts (i - 1) no_thread)
    each_thread i n =
        let t : Thread = get_or ts (i - 1) no_thread in
        let p : ℕ = thread_place (length ms) i in
        record {
          user = thread_out i n 0 (omega arith) p (omega arith);
          node = thread_out i n 1 (omega arith) (p + 1) refl;
          mask = thread_out i n 2 (omega arith) (p + 2) refl;
          roles = subst (RolesHeld t.mask) (sym (thread_out i n 3 (omega arith) (p + 3) refl)) (roles_held t.mask);
          vars = λ v h. thread_out i n (4 + v) (omega (arith, h)) (p + 4 + v) (omega arith) ∙ get_or-append-add (t.user ∷ t.node ∷ t.mask ∷ held 16 t.mask ∷ []) t.vars v 0;
        }

    pub written : Written r old out
    written = record {
      done = head_word 0 (omega arith);
      refusal = head_word 1 (omega arith);
      threads = head_word 2 (omega arith);
      made = head_word 3 (omega arith);
      each_made = each_made;
      each_thread = each_thread;
      size = size;
      past = ap (λ (k : ℕ). drop k out) (sym words_length) ∙ over_past (ran_words r) old fits ∙ ap (λ (k : ℕ). drop k old) words_length;
      length = length-sets old 0 (bytes_of (ran_words r));
    }
