-- The trace of a run. Renders "Trace", of "The numbers". `trace_layout` gives each number of a trace its width; `trace_of` encodes by it, and `line_in` decodes by it.
use Rattle.std.specs.Prelude.{◌≡◌, Bool, ◌&&◌, List, ◌∷◌, ◌++◌, map, ℕ, ◌+◌, ◌*◌, leb, length, get_or}
use Rattle.terms.specs.Outcome.{number_of, value_of}
use Rattle.schedule.specs.Types.{Outcome}
use Rattle.schedule.specs.Format.{arrays, decode, encode}

-- How many bytes each number of a trace has, in the trace's order: the number of entries four, then the outcomes and the values.
abbrev pub trace_layout : ℕ → List ℕ
trace_layout entries = 4 ∷ arrays entries

-- how many bytes the trace of so many entries has
abbrev pub trace_length : ℕ → ℕ
trace_length entries = 4 + 5 * entries

-- whether the trace of so many entries fits a buffer of so many bytes. 01 has no trace of more than 4,096 entries; parts that nobody has checked may have more, and get none.
abbrev pub trace_fits : ℕ → ℕ → Bool
trace_fits entries room = leb entries 4096 && leb (trace_length entries) room

-- the trace of a run with these outcomes
abbrev pub trace_of : List Outcome → List ℕ
trace_of os = encode (trace_layout (length os)) (length os ∷ (map number_of os ++ map value_of os))

-- ── What stands in a trace ──────────────────────────────────────────────────────────────────────────────────────────────────

-- What a trace has of an entry: the number of its outcome, and the value.
pub record Line : Type 0 where
  pub number : ℕ
  pub value : ℕ

abbrev pub line_of : Outcome → Line
line_of o = record { number = number_of o; value = value_of o }

-- the line of an entry, in the trace of so many
abbrev pub line_in : ℕ → List ℕ → ℕ → Line
line_in entries trace at =
    record {
      number = get_or (decode (trace_layout entries) trace) (1 + at) 0;
      value = get_or (decode (trace_layout entries) trace) (1 + entries + at) 0;
    }

-- The length that 01 gives as a number is the layout's. Proved in `proofs/Laws/Trace.antt`.
abbrev pub TraceLength : Type 0
TraceLength = (os : List Outcome) → length (trace_of os) ≡ trace_length (length os)
