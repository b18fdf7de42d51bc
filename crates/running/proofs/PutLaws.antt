-- Runs of stores of words, and the words of made channels and of threads as a loop puts them.
use Prim.Native.Nat.{ℕ, suc, ◌+◌, ◌*◌, ◌-◌, ◌≤◌, ◌<◌}
use mathlib.Core.Path.{◌≡◌, refl, ap, ◌∙◌}
use mathlib.Core.List.{List, [], ◌∷◌, ◌++◌}
use native.Mathlib.Omega.{arith}
use lib.ListN.{length, get_or, length-append}
use lib.Seq.{sets}
use Rattle.masks.specs.Mask.{held}
use Rattle.format.specs.Words.{bytes_of}
use Rattle.format.proofs.PutRuns.{puts_then, puts_turn, puts_end}
use Rattle.steps.specs.declared.Thread.{Thread}
use Rattle.steps.specs.declared.Made.{Made}
use Rattle.steps.proofs.TableLaws.{eight, threads_length}
use Rattle.steps.proofs.ActLaws.{length_made}
use Rattle.running.specs.Run.{thread_words, ran_words}
use Rattle.steps.specs.Records.{thread_in, threads_in}
use Rattle.steps.specs.Beside.{made_at, made_in, made_words}
use Rattle.steps.specs.Kept.{state_in}

-- two words a made channel
pub made_words_length : (ms : List Made) → length (made_words ms) ≡ 2 * length ms
unfolding made_words
made_words_length [] = refl
made_words_length (m ∷ ms) = let later : length (made_words ms) ≡ 2 * length ms = made_words_length ms in omega (arith, later)

-- a made channel more
abbrev made_after : List ℕ → ℕ → ℕ → List ℕ
made_after b n i = made_words (made_in b (2 * i + 2) (n - i))

made_more : (b : List ℕ) (n i : ℕ) (m : Made) → i < n → m ≡ made_at b (2 * i + 2) → made_after b n i ≡ (m.owner ∷ m.kind.0 ∷ []) ++ made_after b n (i + 1)
unfolding made_words made_in
made_more b n i m h e =
    let c : n - i ≡ suc (n - (i + 1)) = omega arith in
    let z : 2 * i + 2 + 2 ≡ 2 * (i + 1) + 2 = omega arith in
    rw (c, z, e)

pub made_begin : (b out : List ℕ) (n : ℕ) → sets out (2 * (4 + 2 * 0)) (bytes_of (made_after b n 0)) ≡ sets out 8 (bytes_of (made_words (made_in b 2 n)))
made_begin b out n = let c : n - 0 ≡ n = omega arith in rw c

pub made_turn : (b l q whole : List ℕ) (n i : ℕ) (m : Made) → i < n → m ≡ made_at b (2 * i + 2) → q ≡ sets l (2 * (4 + 2 * i)) (bytes_of (m.owner ∷ m.kind.0 ∷ []))
    → sets l (2 * (4 + 2 * i)) (bytes_of (made_after b n i)) ≡ whole → sets q (2 * (4 + 2 * (i + 1))) (bytes_of (made_after b n (i + 1))) ≡ whole
made_turn b l q whole n i m h em e inv =
    puts_turn l q whole (4 + 2 * i) (4 + 2 * (i + 1)) (m.owner ∷ m.kind.0 ∷ []) (made_after b n (i + 1)) (made_after b n i) e (omega arith) (made_more b n i m h em) inv

pub made_end : (b l whole : List ℕ) (n i p : ℕ) → n ≤ i → sets l p (bytes_of (made_after b n i)) ≡ whole → l ≡ whole
unfolding made_words made_in
made_end b l whole n i p h inv = let z : n - i ≡ 0 = omega arith in puts_end l whole (made_after b n i) p (rw z) inv

-- a thread more
abbrev threads_after : List ℕ → ℕ → ℕ → List ℕ
threads_after w n i = thread_words (threads_in w (12 * i) (n - i))

threads_more : (w : List ℕ) (n i : ℕ) → i < n → threads_after w n i ≡ thread_words (thread_in w (12 * i) ∷ []) ++ threads_after w n (i + 1)
unfolding thread_words threads_in
threads_more w n i h =
    let c : n - i ≡ suc (n - (i + 1)) = omega arith in
    let z : 12 * i + 12 ≡ 12 * (i + 1) = omega arith in
    rw (c, z)

pub threads_begin : (w out : List ℕ) (base n : ℕ) → sets out (2 * (base + 12 * 0)) (bytes_of (threads_after w n 0)) ≡ sets out (2 * base) (bytes_of (thread_words (threads_in w 0 n)))
threads_begin w out base n = let c : n - 0 ≡ n = omega arith in let z : base + 12 * 0 ≡ base = omega arith in rw (c, z)

pub threads_turn : (w l m whole : List ℕ) (base n i : ℕ) (t : Thread) → i < n → t ≡ thread_in w (12 * i) → m ≡ sets l (2 * (base + 12 * i)) (bytes_of (thread_words (t ∷ [])))
    → sets l (2 * (base + 12 * i)) (bytes_of (threads_after w n i)) ≡ whole → sets m (2 * (base + 12 * (i + 1))) (bytes_of (threads_after w n (i + 1))) ≡ whole
unfolding thread_words
threads_turn w l m whole base n i t h et e inv =
    puts_turn l m whole (base + 12 * i) (base + 12 * (i + 1)) (thread_words (thread_in w (12 * i) ∷ [])) (threads_after w n (i + 1)) (threads_after w n i)
    (e ∙ ap (λ (x : Thread). sets l (2 * (base + 12 * i)) (bytes_of (thread_words (x ∷ [])))) et) (omega arith) (threads_more w n i h) inv

pub threads_end : (w l whole : List ℕ) (n i p : ℕ) → n ≤ i → sets l p (bytes_of (threads_after w n i)) ≡ whole → l ≡ whole
unfolding thread_words threads_in
threads_end w l whole n i p h inv = let z : n - i ≡ 0 = omega arith in puts_end l whole (threads_after w n i) p (rw z) inv

-- one thread: four words, then its eight variables
pub thread_put : (t : Thread) (l m n q : List ℕ) (at roles : ℕ) → length t.vars ≡ 8 → roles ≡ held 16 t.mask
    → m ≡ sets l (2 * at) (bytes_of (t.user ∷ t.node ∷ t.mask ∷ roles ∷ []))
    → n ≡ sets m (2 * (at + 4)) (bytes_of (get_or t.vars 0 0 ∷ get_or t.vars 1 0 ∷ get_or t.vars 2 0 ∷ get_or t.vars 3 0 ∷ []))
    → q ≡ sets n (2 * (at + 8)) (bytes_of (get_or t.vars 4 0 ∷ get_or t.vars 5 0 ∷ get_or t.vars 6 0 ∷ get_or t.vars 7 0 ∷ []))
    → q ≡ sets l (2 * at) (bytes_of (thread_words (t ∷ [])))
unfolding thread_words
thread_put t l m n q at roles long er em en eq =
    let v : List ℕ = t.vars in
    let one : List ℕ = t.user ∷ t.node ∷ t.mask ∷ roles ∷ [] in
    let two : List ℕ = get_or v 0 0 ∷ get_or v 1 0 ∷ get_or v 2 0 ∷ get_or v 3 0 ∷ [] in
    let three : List ℕ = get_or v 4 0 ∷ get_or v 5 0 ∷ get_or v 6 0 ∷ get_or v 7 0 ∷ [] in
    let first : n ≡ sets l (2 * at) (bytes_of (one ++ two)) = puts_then l m n at (at + 4) one two em refl en in
    let all : q ≡ sets l (2 * at) (bytes_of (one ++ two ++ three)) = puts_then l n q at (at + 8) (one ++ two) three first refl eq in
    let same : one ++ two ++ three ≡ t.user ∷ t.node ∷ t.mask ∷ held 16 t.mask ∷ t.vars ++ [] =
    rw er (ap (λ (x : List ℕ). t.user ∷ t.node ∷ t.mask ∷ held 16 t.mask ∷ x ++ []) (eight v long)) in
    all ∙ ap (λ (x : List ℕ). sets l (2 * at) (bytes_of x)) same

-- the whole state
pub state_put : (w b l l1 l2 l3 : List ℕ) (count refusal made threads : ℕ) → made ≡ get_or b 1 0 → threads ≡ get_or b 0 0
    → l1 ≡ sets l 0 (bytes_of (count ∷ refusal ∷ threads ∷ made ∷ []))
    → l2 ≡ sets l1 8 (bytes_of (made_words (made_in b 2 made))) → l3 ≡ sets l2 (2 * (4 + 2 * made)) (bytes_of (thread_words (threads_in w 0 threads)))
    → l3 ≡ sets l 0 (bytes_of (ran_words (record { count = count; refusal = refusal; state = state_in w b })))
unfolding ran_words
state_put w b l l1 l2 l3 count refusal made threads em et e1 e2 e3 =
    let one : List ℕ = count ∷ refusal ∷ threads ∷ made ∷ [] in
    let two : List ℕ = made_words (made_in b 2 made) in
    let three : List ℕ = thread_words (threads_in w 0 threads) in
    let size : length two ≡ 2 * made = made_words_length (made_in b 2 made) ∙ ap (λ (k : ℕ). 2 * k) (length_made b 2 made) in
    let joined : length (one ++ two) ≡ 4 + length two = length-append one two in
    let first : l2 ≡ sets l 0 (bytes_of (one ++ two)) = puts_then l l1 l2 0 4 one two e1 refl e2 in
    let all : l3 ≡ sets l 0 (bytes_of (one ++ two ++ three)) = puts_then l l2 l3 0 (4 + 2 * made) (one ++ two) three first (omega (arith, size, joined)) e3 in
    all ∙ rw (threads_length w 0 (get_or b 0 0), length_made b 2 (get_or b 1 0), em, et)
