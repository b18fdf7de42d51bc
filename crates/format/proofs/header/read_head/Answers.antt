use borrow.Author.Tests.{lt-ltb, le-ltb, eq-eqb, ne_eqb}
use Prim.Native.Nat.{ℕ}
use mathlib.Core.Path.{◌≡◌, sym, ap, ◌∙◌, ap₂}
use mathlib.Core.Bool.{Bool, false}
use native.Mathlib.Omega.{arith}
use lib.Dec.{ltb}
use Rattle.format.specs.Words.{word_at}
use Rattle.format.specs.declared.Six.{Six}
use Rattle.format.specs.declared.Seven.{Seven}
use Rattle.format.specs.declared.Head.{Head}
use Rattle.std.specs.Prelude.{Result, Ok}
use lib.ListN.{length}
use Rattle.format.specs.Header.{is_version, counts_fit, offsets_fit, length_fits, six_at, offsets_at, head_in, as_read, head_bytes, head_of, from1, from2, from3, from4, from5}
use Rattle.format.proofs.HeadLaws.{read_whole, none_read}
use Rattle.format.proofs.header.read_head.Goals as goal
use Rattle.format.proofs.header.read_head.Lts as lts
use Rattle.format.proofs.header.read_head.Tie as tie
use Rattle.format.proofs.header.read_head.Reads as reads

all : {v w : ℕ} {n n' : Six} {at at' : Seven} → v ≡ w → n ≡ n' → at ≡ at'
    → ◌≡◌ {A = Result Head ℕ} (Ok (record { version = v; count = n; at = at })) (Ok (record { version = w; count = n'; at = at' }))
all e f g = cc

three : {A B C D : Type 0} (h : A → B → C → D) {a a' : A} {b b' : B} {c c' : C} → a ≡ a' → b ≡ b' → c ≡ c' → h a b c ≡ h a' b' c'
three h e f g = λ i. h (e i) (f i) (g i)

sized-head : (c : lts.After-head_bytes tie.the-claims reads.Pre reads.Post) → c.head_bytes.result ≡ head_bytes (word_at c.args.file.now 0)
sized-head c = c.head_bytes.ensures ∙ ap head_bytes c.word-version.ensures

whole : (c : lts.Else1 tie.the-claims reads.Pre reads.Post) → as_read c.args.file.now ≡ c.args.file.now
whole c = read_whole c.args.file.now (λ none. omega (arith, none, c.if-file-eq0.false))

enough : (c : lts.Else2 tie.the-claims reads.Pre reads.Post) → ltb (length c.args.file.now) (head_bytes (word_at c.args.file.now 0)) ≡ false
enough c = le-ltb (length c.args.file.now) (head_bytes (word_at c.args.file.now 0)) (omega (arith, c.if-file-head_bytes.false, sized-head c.before))

at2 : (c : lts.Else3 tie.the-claims reads.Pre reads.Post) → head_of c.args.file.now ≡ from2 c.args.file.now
unfolding head_of from1
at2 c = ap from1 (whole c.before.before.before.before) ∙ rw (enough c.before, ne_eqb _ _ c.if-file-eq1.false)

versioned : (c : lts.After-is_version tie.the-claims reads.Pre reads.Post) {b : Bool} → c.is_version.result ≡ b → is_version (word_at c.args.file.now 0) ≡ b
versioned c h = sym (ap is_version c.word-version.ensures) ∙ sym c.is_version.ensures ∙ h

at3 : (c : lts.Else4 tie.the-claims reads.Pre reads.Post) → head_of c.args.file.now ≡ from3 c.args.file.now
unfolding from2
at3 c = at2 c.before.before ∙ rw (versioned c.before c.if-not-is_version.false)

counted : (c : lts.After-counts_fit tie.the-claims reads.Pre reads.Post) {b : Bool} → c.counts_fit.result ≡ b → counts_fit (six_at c.args.file.now 1) ≡ b
counted c h = sym (ap counts_fit c.six_at-count.ensures) ∙ sym c.counts_fit.ensures ∙ h

at4 : (c : lts.Else5 tie.the-claims reads.Pre reads.Post) → head_of c.args.file.now ≡ from4 c.args.file.now
unfolding from3
at4 c = at3 c.before.before.before ∙ rw (counted c.before c.if-not-counts_fit.false)

offsets : (c : lts.After-offsets_at tie.the-claims reads.Pre reads.Post) → c.offsets_at-at.result ≡ offsets_at c.args.file.now (word_at c.args.file.now 0)
offsets c = c.offsets_at-at.ensures ∙ ap (offsets_at c.args.file.now) c.word-version.ensures

laid : (c : lts.After-offsets_fit tie.the-claims reads.Pre reads.Post) {b : Bool} → c.offsets_fit.result ≡ b
    → offsets_fit (word_at c.args.file.now 0) (six_at c.args.file.now 1) (offsets_at c.args.file.now (word_at c.args.file.now 0)) ≡ b
laid c h =
    sym (three offsets_fit c.word-version.ensures c.six_at-count.ensures (offsets c.before)) ∙ sym c.offsets_fit.ensures ∙ h

at5 : (c : lts.Else6 tie.the-claims reads.Pre reads.Post) → head_of c.args.file.now ≡ from5 c.args.file.now
unfolding from4
at5 c = at4 c.before.before.before ∙ rw (laid c.before c.if-not-offsets_fit.false)

sized : (c : lts.After-length_fits tie.the-claims reads.Pre reads.Post) {b : Bool} → c.length_fits.result ≡ b
    → length_fits (word_at c.args.file.now 6) (head_in c.args.file.now).at.nodes (length c.args.file.now) ≡ b
sized c h =
    sym (ap₂ (λ m a. length_fits m a (length c.args.file.now)) (ap (λ x. x.nodes) c.six_at-count.ensures) (ap (λ x. x.nodes) (offsets c.before.before.before)))
    ∙ sym c.length_fits.ensures ∙ h

pub returns-then-file-eq0 : goal.returns-then-file-eq0
returns-then-file-eq0 c = ap Ok c.nothing_planned.ensures ∙ sym (none_read c.args.file.now (omega (arith, c.if-file-eq0.true)))

pub returns-then-file-head_bytes : goal.returns-then-file-head_bytes
unfolding head_of from1
returns-then-file-head_bytes c = sym (ap from1 (whole c.before.before.before.before) ∙ rw (lt-ltb (length c.args.file.now) (head_bytes (word_at c.args.file.now 0)) (omega (arith, c.if-file-head_bytes.true, sized-head c.before.before))))

pub returns-then-file-eq1 : goal.returns-then-file-eq1
unfolding head_of from1
returns-then-file-eq1 c = sym (ap from1 (whole c.before.before.before.before.before) ∙ rw (enough c.before.before, eq-eqb _ _ c.if-file-eq1.true))

pub returns-then-not-is_version : goal.returns-then-not-is_version
unfolding from2
returns-then-not-is_version c = sym (at2 c.before.before.before ∙ rw (versioned c.before.before c.if-not-is_version.true))

pub returns-then-not-counts_fit : goal.returns-then-not-counts_fit
unfolding from3
returns-then-not-counts_fit c = sym (at3 c.before.before.before.before ∙ rw (counted c.before.before c.if-not-counts_fit.true))

pub returns-then-not-offsets_fit : goal.returns-then-not-offsets_fit
unfolding from4
returns-then-not-offsets_fit c = sym (at4 c.before.before.before.before ∙ rw (laid c.before.before c.if-not-offsets_fit.true))

pub returns-then-not-length_fits : goal.returns-then-not-length_fits
unfolding from5
returns-then-not-length_fits c = sym (at5 c.before.before.before ∙ rw (sized c.before.before c.if-not-length_fits.true))

pub returns : goal.returns
unfolding from5
returns c = sym (at5 c.before.before.before ∙ rw (sized c.before.before c.if-not-length_fits.false)
    (sym (all c.word-version.ensures c.six_at-count.ensures (offsets c.before.before.before.before.before))))
