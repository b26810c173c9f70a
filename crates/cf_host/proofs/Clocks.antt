-- The store's clock beside this process's.
use Rattle.std.proofs.Common.{arith}
use Rattle.cf_host.specs.Clocks.{LimitsComeInTime, TimersComeByThen, WhatComesHasCome}

pub limits_come_in_time : LimitsComeInTime
limits_come_in_time clock r now span reading fast late =
    let from = reading.from in
    let to = reading.to in
    let shows = reading.shows in
    let runs = fast reading.at now (omega (arith, to, late)) in
    omega (arith, from, to, shows, runs, late)

pub timers_come_by_then : TimersComeByThen
timers_come_by_then clock r moment now reading slow late =
    let to = reading.to in
    let shows = reading.shows in
    let runs = slow reading.at now (omega (arith, to, late)) in
    omega (arith, to, shows, runs, late)

pub what_comes_has_come : WhatComesHasCome
what_comes_has_come clock r moment now reading slow late come =
    let to = reading.to in
    let shows = reading.shows in
    let runs = slow reading.at now (omega (arith, to, late)) in
    omega (arith, to, shows, runs, come)
