-- A file is read without refusal where its head is, and what follows the head; what the way in says of a file.
use Prim.Native.Nat.{ℕ}
use mathlib.Core.Path.{◌≡◌, refl, sym, ap, subst, ◌∙◌}
use mathlib.Core.Logic.{◌↔◌}
use mathlib.Core.Bool.{Bool, true, false, cond}
use mathlib.Core.List.{List}
use native.Mathlib.Omega.{arith}
use lib.Dec.{eqb}
use borrow.Author.Tests.{eqb-true, eqb-false, ne_eqb}
use Rattle.format.specs.Contents.{contents_at, contents_of}
use Rattle.format.specs.Answers.{fine, refused}
use Rattle.format.specs.Header.{head_at, head_of, Laid}
use Rattle.reading.specs.Reading.{reading_by, body_answer, reading, with_head, opened}
use Rattle.format.specs.declared.Head.{Head}
use Rattle.format.specs.declared.Verdict.{Verdict}
use Rattle.std.specs.Prelude.{Result, Ok, Err}
use Rattle.format.proofs.AnswerLaws.{NoRefusal}
use Rattle.format.proofs.HeadLaws.{Headed, headed, headed_fine, head_number_lem}

module _ (f : List ℕ) where
  -- a head that is refused has the whole answer
  pub refused_by_head : (n : ℕ) → head_of f ≡ Err n → reading f ≡ refused n 0
  unfolding reading
  refused_by_head n e = ap (reading_by f) e

  -- where nothing is refused there is a head, and the answer is that for what follows it
  pub by_body : NoRefusal (reading f) → Headed f × (reading f ≡ body_answer (head_at f) (contents_of f))
  unfolding reading
  by_body q = go (head_of f) refl
    where
      go : (a : Result Head ℕ) → head_of f ≡ a → Headed f × (reading f ≡ body_answer (head_at f) (contents_of f))
      go (Ok h) e = let d = (headed f h e).0 in (d, ap (reading_by f) (headed_fine f d))
      go (Err n) e = let z = ap (λ (v : Verdict). v.number) (refused_by_head n e) in absurd (omega (arith, q, z, head_number_lem f n e))

  pub reading_iff : (reading f ≡ fine) ↔ (Headed f × (body_answer (head_at f) (contents_of f) ≡ fine))
  unfolding reading
  reading_iff = (λ e. let (d, s) = by_body (ap (λ (v : Verdict). v.number) e) in (d, sym s ∙ e), λ (d, e). rw (headed_fine f d) e)

-- a head comes where an answer refuses nothing, and a refusal where it refuses
module _ (k : Head) (v : Verdict) where
  pub head_given : (h : Head) → with_head k v ≡ Ok h → NoRefusal v × (h ≡ k)
  head_given h e = go (eqb v.number 0) refl e
    where
      go : (b : Bool) → eqb v.number 0 ≡ b → cond b (Ok k) (Err v) ≡ Ok h → NoRefusal v × (h ≡ k)
      go true q s = (eqb-true v.number 0 q, cc)
      go false q s = let no : ◌≡◌ {A = ℕ} 0 1 = cc in absurd (omega arith)

  pub refusal_given : (w : Verdict) → with_head k v ≡ Err w → (NoRefusal v → ⊥) × (w ≡ v)
  refusal_given w e = go (eqb v.number 0) refl e
    where
      go : (b : Bool) → eqb v.number 0 ≡ b → cond b (Ok k) (Err v) ≡ Err w → (NoRefusal v → ⊥) × (w ≡ v)
      go true q s = let no : ◌≡◌ {A = ℕ} 0 1 = cc in absurd (omega arith)
      go false q s = (eqb-false v.number 0 q, cc)

module _ (f : List ℕ) where
  pub opened_fine : (h : Head) → opened f ≡ Ok h → Laid f h × (h ≡ head_at f) × NoRefusal (reading f)
  unfolding opened
  opened_fine h e = let (q, s) = head_given (head_at f) (reading f) h e in (subst (Laid f) (sym s) (by_body f q).0.laid, s, q)

  pub opened_refused : (w : Verdict) → opened f ≡ Err w → (NoRefusal (reading f) → ⊥) × (w ≡ reading f)
  unfolding opened
  opened_refused w e = refusal_given (head_at f) (reading f) w e

  -- as the code finds it
  pub opened_by_head : (n : ℕ) → head_of f ≡ Err n → Err (refused n 0) ≡ opened f
  unfolding opened
  opened_by_head n e = rw (refused_by_head f n e, ne_eqb n 0 (λ z. let no : n ≡ 0 = z in omega (arith, head_number_lem f n e)))

  pub opened_by_body : (h : Head) → head_of f ≡ Ok h → with_head h (body_answer h (contents_at f h)) ≡ opened f
  unfolding opened reading
  opened_by_body h e = let same : h ≡ head_at f = (headed f h e).1 in rw (e, ← same)
