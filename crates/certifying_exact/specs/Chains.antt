-- Parts of a certificate, one after the other.
use Rattle.std.specs.Prelude.{ℕ, ◌≡◌, List, [], ◌∷◌, length}
use Rattle.certifying.specs.declared.Part.{Part}
use Rattle.certifying.specs.Certificate.{Certificate}
use Rattle.certifying_exact.specs.Numbered.{done_before}

-- the parts begin at row j and word c, each where the one before ends, and end before row n
abbrev pub Chained : ℕ → ℕ → List Part → ℕ → Type 0
Chained j c [] n = j ≡ n
Chained j c (P ∷ Ps) n = (P.from ≡ j) × (P.begin ≡ c) × Chained P.to P.end Ps n

-- how many choices are done in the rows before row j
abbrev pub words_before : Certificate → ℕ → ℕ
words_before K j = length (done_before K j)

-- the part of the rows from j on and before k
abbrev pub part_between : Certificate → ℕ → ℕ → Part
part_between K j k = record { from = j; to = k; begin = words_before K j; end = words_before K k }
