use Rattle.std.proofs.Common.{◌≤◌, ◌∙◌, ap, arith, length, Err}
use Rattle.tlb_files.specs.View.{files_by}
use Rattle.tlb_files.proofs.Loaded.{files-at, opens-turn, opens-here, short-turn, holds-turn, long-turn, holds-all, short-all, none-left, opens-all}
use Rattle.tlb_files.proofs.load.load_all.Goals as goal

pub returns-in-Err-clause-stops : goal.returns-in-Err-clause-stops
returns-in-Err-clause-stops g c = record {
  count = _;
  opens = opens-here c.args.files.now c.files.place _ _ _ _ (omega arith) c.files.invariant.opens c.load.ensures.opens c.load.ensures.taken c.load.ensures.reads;
  calm = c.in-Ok.ensures.calm (λ is. cc) ∙ c.files.invariant.calm;
}

pub returns-in-Err-Fault-clause-stops : goal.returns-in-Err-Fault-clause-stops
returns-in-Err-Fault-clause-stops g c = record {
  last = record {
    place = c.files.place;
    found = files-at c.args.files.now c.files.place _ (omega arith);
    opens = opens-here c.args.files.now c.files.place _ _ _ _ (omega arith) c.files.invariant.opens c.load.ensures.opens c.load.ensures.taken c.load.ensures.reads;
  };
  rose = omega (arith, c.in-Err-Fault.ensures.fault (ap Err c.in-Err-Fault.field-0-is), c.files.invariant.calm);
}

pub returns-in-Err-TooLong-clause-stops : goal.returns-in-Err-TooLong-clause-stops
returns-in-Err-TooLong-clause-stops g c = record {
  last = record {
    place = c.files.place;
    found = files-at c.args.files.now c.files.place _ (omega arith);
    opens = opens-here c.args.files.now c.files.place _ _ _ _ (omega arith) c.files.invariant.opens c.load.ensures.opens c.load.ensures.taken c.load.ensures.reads;
  };
  more = c.in-Err-TooLong.ensures.too_long (ap Err c.in-Err-TooLong.field-0-is);
  calm = c.in-Err-TooLong.ensures.calm (λ is. cc) ∙ c.files.invariant.calm;
  holds = long-turn (g.H.Shelf.held c.args.shelf.now) c.args.files.now c.files.place _ c.files.contents.items (omega arith)
      (rw c.files.invariant.held at c.in-Err-TooLong.ensures.held_long (ap Err c.in-Err-TooLong.field-0-is)) c.files.invariant.holds;
}

pub returns-in-Err-NoMemory-clause-stops : goal.returns-in-Err-NoMemory-clause-stops
returns-in-Err-NoMemory-clause-stops g c = record {
  count = _;
  opens = opens-here c.args.files.now c.files.place _ _ _ _ (omega arith) c.files.invariant.opens c.load.ensures.opens c.load.ensures.taken c.load.ensures.reads;
  calm = c.in-Err-NoMemory.ensures.calm (λ is. cc) ∙ c.files.invariant.calm;
}

pub files-preserved : goal.files-preserved
files-preserved g c = record {
  held = c.load.ensures.held ∙ c.files.invariant.held;
  calm = c.in-Ok.ensures.calm (λ is. cc) ∙ c.files.invariant.calm;
  opens = opens-turn c.args.files.now c.files.place _ _ _ _ (omega arith) c.files.invariant.opens c.load.ensures.opens c.load.ensures.taken c.load.ensures.reads;
  short = short-turn c.args.files.now c.files.place _ c.files.contents.items _ c.in-Ok.bytes (omega arith) c.in-Ok-push.ensures.items c.in-Ok.ensures.short c.files.invariant.short;
  holds = holds-turn (g.H.Shelf.held c.args.shelf.now) c.args.files.now c.files.place _ c.files.contents.items _ c.in-Ok.bytes (omega arith) c.in-Ok-push.ensures.items c.in-Ok.ensures.short
      (rw c.files.invariant.held at c.in-Ok.ensures.bytes) c.files.invariant.holds;
}

pub returns-clause-loaded : goal.returns-clause-loaded
returns-clause-loaded g c =
    let all : length c.args.files.now ≤ c.files.place = omega arith in
    let none = none-left c.args.files.now c.files.place all in
    record {
      opens = opens-all c.args.files.now c.files.place _ _ (omega arith) c.files.invariant.opens;
      calm = c.files.invariant.calm;
      short = short-all (files_by c.args.files.now) _ (rw none at c.files.invariant.short);
      holds = holds-all (g.H.Shelf.held c.args.shelf.now) (files_by c.args.files.now) _ (rw none at c.files.invariant.holds);
    }
