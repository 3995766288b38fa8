-- The small state with one of its fields replaced.
use Rattle.std.specs.Prelude.{false, List, ℕ, set}
use Rattle.card.specs.declared.Counters.{Counters}
use Rattle.registers.specs.declared.Registers.{Registers}
use Rattle.live.specs.declared.Live.{Live}

abbrev pub with_registers : Registers → Live → Live
with_registers r l =
    record {
      ram_len = l.ram_len;
      registers = r;
      config = l.config;
      queues = l.queues;
      outputs = l.outputs;
      inputs = l.inputs;
      states = l.states;
      fresh = l.fresh;
      play_dropped = l.play_dropped;
      capture_dropped = l.capture_dropped;
      backlogs = l.backlogs;
    }

-- the counters of a queue
abbrev pub with_counters : ℕ → Counters → Live → Live
with_counters q v l =
    record {
      ram_len = l.ram_len;
      registers = l.registers;
      config = l.config;
      queues = set l.queues q v;
      outputs = l.outputs;
      inputs = l.inputs;
      states = l.states;
      fresh = l.fresh;
      play_dropped = l.play_dropped;
      capture_dropped = l.capture_dropped;
      backlogs = l.backlogs;
    }

-- the streams' states and backlogs
abbrev pub with_states : List ℕ → Live → Live
with_states v l =
    record {
      ram_len = l.ram_len;
      registers = l.registers;
      config = l.config;
      queues = l.queues;
      outputs = l.outputs;
      inputs = l.inputs;
      states = v;
      fresh = l.fresh;
      play_dropped = l.play_dropped;
      capture_dropped = l.capture_dropped;
      backlogs = l.backlogs;
    }

abbrev pub with_backlogs : List ℕ → Live → Live
with_backlogs v l =
    record {
      ram_len = l.ram_len;
      registers = l.registers;
      config = l.config;
      queues = l.queues;
      outputs = l.outputs;
      inputs = l.inputs;
      states = l.states;
      fresh = l.fresh;
      play_dropped = l.play_dropped;
      capture_dropped = l.capture_dropped;
      backlogs = v;
    }

-- the words of a queue were written: they stand for its lines
abbrev pub with_play_kept : Live → Live
with_play_kept l =
    record {
      ram_len = l.ram_len;
      registers = l.registers;
      config = l.config;
      queues = l.queues;
      outputs = l.outputs;
      inputs = l.inputs;
      states = l.states;
      fresh = l.fresh;
      play_dropped = false;
      capture_dropped = l.capture_dropped;
      backlogs = l.backlogs;
    }

abbrev pub with_capture_kept : Live → Live
with_capture_kept l =
    record {
      ram_len = l.ram_len;
      registers = l.registers;
      config = l.config;
      queues = l.queues;
      outputs = l.outputs;
      inputs = l.inputs;
      states = l.states;
      fresh = l.fresh;
      play_dropped = l.play_dropped;
      capture_dropped = false;
      backlogs = l.backlogs;
    }
