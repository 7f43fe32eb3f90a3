use Rattle.std.proofs.Common.{◌≡◌, ◌-◌, ◌≤◌, length, take, refl, sym, ap, ◌∙◌, arith}
use Rattle.std.proofs.lemmas.List.{length-take}
use Rattle.mh_io.specs.Lined.{is_ended}
use Rattle.mh_io.specs.LinesSteps.{HasNoLf}
use Rattle.mh_io.specs.Limits.{most_bytes}
use Rattle.mh_io.proofs.LinesLooks.{line_found, none_near, near_bytes, part_found}
use Rattle.mh_io.proofs.LinesRuns.{long_run, over_run}
use Rattle.mh_io.proofs.lines_read.Lines.look.Goals as goal

pub returns-in-Some-clause-shows : goal.returns-in-Some-clause-shows
returns-in-Some-clause-shows g c =
    let held = c.self.inside in
    let bytes = c.bytes-bytes.result.now in
    let pending : bytes ≡ c.args.self.now.pending = c.bytes-bytes.ensures.value ∙ ap (λ h. h.pending) c.self.view_is in
    let passed : held.passed ≡ c.args.self.now.passed = ap (λ h. h.passed) c.self.view_is in
    let free : HasNoLf (take c.args.looked bytes) = rw pending c.requires.text in
    let few : length bytes ≤ 65536 = rw c.bytes-bytes.ensures.value c.bytes-bytes.ensures.few in
    let order : c.args.looked ≤ c.min-near.result = omega (arith, ap length pending) in
    rw (← passed, ← pending) (line_found held.passed c.args.looked c.min-near.result c.in-Some.place bytes (omega arith) c.min-near.ensures order few free (sym c.find_lf.ensures ∙ c.in-Some.is))

pub returns-then-near-eq-LINE_BYTES-clause-shows : goal.returns-then-near-eq-LINE_BYTES-clause-shows
returns-then-near-eq-LINE_BYTES-clause-shows g c =
    let held = c.self.inside in
    let bytes = c.bytes-bytes.result.now in
    let pending : bytes ≡ c.args.self.now.pending = c.bytes-bytes.ensures.value ∙ ap (λ h. h.pending) c.self.view_is in
    let passed : held.passed ≡ c.args.self.now.passed = ap (λ h. h.passed) c.self.view_is in
    let free : HasNoLf (take c.args.looked bytes) = rw pending c.requires.text in
    let few : length bytes ≤ 65536 = rw c.bytes-bytes.ensures.value c.bytes-bytes.ensures.few in
    let order : c.args.looked ≤ c.min-near.result = omega (arith, ap length pending) in
    let near : HasNoLf (take c.min-near.result bytes) = none_near held.passed c.args.looked c.min-near.result bytes c.min-near.ensures order free (sym c.find_lf.ensures ∙ c.in_default.is) in
    let all : take c.min-near.result bytes ≡ take (most_bytes - held.passed) bytes = near_bytes held.passed c.min-near.result bytes c.min-near.ensures in
    let looks : HasNoLf (take (most_bytes - held.passed) bytes) = rw (← all) near in
    rw (← passed, ← pending) (long_run held.passed bytes (is_ended c.args.self.now.supply) looks (omega (arith, length-take (most_bytes - held.passed) bytes)))

pub returns-then-near-bytes-clause-shows : goal.returns-then-near-bytes-clause-shows
returns-then-near-bytes-clause-shows g c =
    let held = c.self.inside in
    let bytes = c.bytes-bytes.result.now in
    let pending : bytes ≡ c.args.self.now.pending = c.bytes-bytes.ensures.value ∙ ap (λ h. h.pending) c.self.view_is in
    let passed : held.passed ≡ c.args.self.now.passed = ap (λ h. h.passed) c.self.view_is in
    let free : HasNoLf (take c.args.looked bytes) = rw pending c.requires.text in
    let few : length bytes ≤ 65536 = rw c.bytes-bytes.ensures.value c.bytes-bytes.ensures.few in
    let order : c.args.looked ≤ c.min-near.result = omega (arith, ap length pending) in
    let near : HasNoLf (take c.min-near.result bytes) = none_near held.passed c.args.looked c.min-near.result bytes c.min-near.ensures order free (sym c.find_lf.ensures ∙ c.in_default.is) in
    let all : take c.min-near.result bytes ≡ take (most_bytes - held.passed) bytes = near_bytes held.passed c.min-near.result bytes c.min-near.ensures in
    let looks : HasNoLf (take (most_bytes - held.passed) bytes) = rw (← all) near in
    (rw (← passed, ← pending) (over_run held.passed bytes (is_ended c.args.self.now.supply) looks (omega (arith, length-take (most_bytes - held.passed) bytes)) (omega arith)), refl)

pub returns-in-Open-clause-shows : goal.returns-in-Open-clause-shows
returns-in-Open-clause-shows g c =
    let held = c.self.inside in
    let bytes = c.bytes-bytes.result.now in
    let pending : bytes ≡ c.args.self.now.pending = c.bytes-bytes.ensures.value ∙ ap (λ h. h.pending) c.self.view_is in
    let passed : held.passed ≡ c.args.self.now.passed = ap (λ h. h.passed) c.self.view_is in
    let free : HasNoLf (take c.args.looked bytes) = rw pending c.requires.text in
    let few : length bytes ≤ 65536 = rw c.bytes-bytes.ensures.value c.bytes-bytes.ensures.few in
    let order : c.args.looked ≤ c.min-near.result = omega (arith, ap length pending) in
    let near : HasNoLf (take c.min-near.result bytes) = none_near held.passed c.args.looked c.min-near.result bytes c.min-near.ensures order free (sym c.find_lf.ensures ∙ c.in_default.is) in
    let all : take c.min-near.result bytes ≡ take (most_bytes - held.passed) bytes = near_bytes held.passed c.min-near.result bytes c.min-near.ensures in
    let looks : HasNoLf (take (most_bytes - held.passed) bytes) = rw (← all) near in
    (rw (← passed, ← pending) (part_found held.passed c.min-near.result bytes (omega arith) c.min-near.ensures near (omega arith) (omega arith)), sym (ap (λ h. h.supply) c.self.view_is) ∙ c.in-Open.is)

pub returns-in-Ended-clause-shows : goal.returns-in-Ended-clause-shows
returns-in-Ended-clause-shows g c =
    let held = c.self.inside in
    let bytes = c.bytes-bytes.result.now in
    let pending : bytes ≡ c.args.self.now.pending = c.bytes-bytes.ensures.value ∙ ap (λ h. h.pending) c.self.view_is in
    let passed : held.passed ≡ c.args.self.now.passed = ap (λ h. h.passed) c.self.view_is in
    let free : HasNoLf (take c.args.looked bytes) = rw pending c.requires.text in
    let few : length bytes ≤ 65536 = rw c.bytes-bytes.ensures.value c.bytes-bytes.ensures.few in
    let order : c.args.looked ≤ c.min-near.result = omega (arith, ap length pending) in
    let near : HasNoLf (take c.min-near.result bytes) = none_near held.passed c.args.looked c.min-near.result bytes c.min-near.ensures order free (sym c.find_lf.ensures ∙ c.in_default.is) in
    let all : take c.min-near.result bytes ≡ take (most_bytes - held.passed) bytes = near_bytes held.passed c.min-near.result bytes c.min-near.ensures in
    let looks : HasNoLf (take (most_bytes - held.passed) bytes) = rw (← all) near in
    (rw (← passed, ← pending) (part_found held.passed c.min-near.result bytes (omega arith) c.min-near.ensures near (omega arith) (omega arith)), sym (ap (λ h. h.supply) c.self.view_is) ∙ c.in-Ended.is)

pub returns-in-Failed-clause-shows : goal.returns-in-Failed-clause-shows
returns-in-Failed-clause-shows g c =
    let held = c.self.inside in
    let bytes = c.bytes-bytes.result.now in
    let pending : bytes ≡ c.args.self.now.pending = c.bytes-bytes.ensures.value ∙ ap (λ h. h.pending) c.self.view_is in
    let passed : held.passed ≡ c.args.self.now.passed = ap (λ h. h.passed) c.self.view_is in
    let free : HasNoLf (take c.args.looked bytes) = rw pending c.requires.text in
    let few : length bytes ≤ 65536 = rw c.bytes-bytes.ensures.value c.bytes-bytes.ensures.few in
    let order : c.args.looked ≤ c.min-near.result = omega (arith, ap length pending) in
    let near : HasNoLf (take c.min-near.result bytes) = none_near held.passed c.args.looked c.min-near.result bytes c.min-near.ensures order free (sym c.find_lf.ensures ∙ c.in_default.is) in
    let all : take c.min-near.result bytes ≡ take (most_bytes - held.passed) bytes = near_bytes held.passed c.min-near.result bytes c.min-near.ensures in
    let looks : HasNoLf (take (most_bytes - held.passed) bytes) = rw (← all) near in
    (rw (← passed, ← pending) (part_found held.passed c.min-near.result bytes (omega arith) c.min-near.ensures near (omega arith) (omega arith)), sym (ap (λ h. h.supply) c.self.view_is) ∙ c.in-Failed.is)
