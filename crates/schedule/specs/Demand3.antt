-- Demand 3 of a trace that was written: with enough margin, the answers in its bytes are those of the plain queue, and no task is lost or given twice. The claim itself, and the plain queue, are those of `claim`; what they know of FF-THE and of FF-CL is in `machine` and `cas`; a machine's own account is in `properties`. `run_on` promises it. It is said of any queue on its machine.
use Rattle.std.specs.Prelude.{◌≡◌, true, cond, List, [], ◌∷◌, ◌++◌, map, ℕ, Result, Ok}
use Rattle.claim.specs.Calls.{answers_to}
use Rattle.claim.specs.Implementation.{Implementation}
use Rattle.claim.specs.Watch.{Event, events, watch_fresh}
use Rattle.claim.specs.Linearizable.{Linearizable, answering}
use Rattle.cas.specs.Linearizable.{ff_cl}
use Rattle.machine.specs.Linearizable.{ff_the}
use Rattle.properties.specs.ExactlyOnce.{ExactlyOnce}
use Rattle.terms.specs.Lists.{concat_map, range}
use Rattle.terms.specs.Outcome.{is_answer_number}
use Rattle.terms.specs.Sizes.{enough_margin}
use Rattle.schedule.specs.Types.{Entry, FfCl, FfThe, Queue, Refusal, Sizes, Summary}
use Rattle.schedule.specs.Format.{entries_in, sizes_in}
use Rattle.schedule.specs.Run.{schedule_in}
use Rattle.schedule.specs.Trace.{Line, line_in, line_of}

-- a line, if it is an answer
abbrev pub answer_in : Line → List Line
answer_in l = cond (is_answer_number l.number) (l ∷ []) []

-- the answers in the trace of so many entries, in their order
abbrev pub answers_in : ℕ → List ℕ → List Line
answers_in entries trace = concat_map (λ at. answer_in (line_in entries trace at)) (range entries)

module _ {M : Type 0} (b : Implementation M Entry) where
  -- a call's answer, if it is one that the plain queue is not told of
  abbrev pub untold : Event → List Line
  untold v = cond (b.is_told v.call.begun v.outcome) [] (line_of v.outcome ∷ [])

  -- for each call that has answered, in the order of the answers: its own answer, if the plain queue is not told of it, and what the plain queue answered to it
  abbrev pub plain_answers : Sizes → List Entry → List (List Line)
  plain_answers s es = map (λ v. untold v ++ map line_of (answers_to v.call)) (answering (events b (watch_fresh b s) es))

  pub record TraceLinearizes (s : Sizes) (es : List Entry) (entries : ℕ) (trace : List ℕ) : Type 0 where
    -- Each answer in the bytes, number and value, is the plain queue's one answer to that call; or, where the plain queue is not told of such a call, the call's own answer,
    -- and the plain queue has answered nothing to it.
    pub answers : map (λ l. l ∷ []) (answers_in entries trace) ≡ plain_answers s es
    -- of the list of entries all of demand 3 is true
    pub linearizable : Linearizable b s es
    -- and no task is lost or given twice, by the machine's own account
    pub once : ExactlyOnce b s es

  -- a file that was run, with enough margin
  abbrev pub RunLinearizesBy : List ℕ → List ℕ → Result Summary Refusal → Type 0
  RunLinearizesBy file trace answer =
      (t : Summary) → answer ≡ Ok t → enough_margin (sizes_in file) ≡ true
      → TraceLinearizes (sizes_in file) (schedule_in file) (entries_in file) trace

-- .. by FF-THE
abbrev pub RunLinearizes : List ℕ → List ℕ → Result Summary Refusal → Type 0
RunLinearizes = RunLinearizesBy ff_the

-- .. by the queue that is named
abbrev pub RunLinearizesOn : Queue → List ℕ → List ℕ → Result Summary Refusal → Type 0
RunLinearizesOn FfThe = RunLinearizesBy ff_the
RunLinearizesOn FfCl = RunLinearizesBy ff_cl

-- FF-THE's plain queue is told of every call, so each answer in the bytes is the plain queue's. Proved in `proofs/FfThe.antt`.
abbrev pub AllTold : Type 0
AllTold = (s : Sizes) (es : List Entry) → plain_answers ff_the s es ≡ map (λ v. map line_of (answers_to v.call)) (answering (events ff_the (watch_fresh ff_the s) es))
