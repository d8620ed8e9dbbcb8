use Rattle.frames.proofs.Turns.{place_of_lies, sample_lies, range_lies, check_lies}
use Rattle.frames.proofs.Reading.{reads_back, three_frames_decide}
use Rattle.frames.proofs.promises.frames_read_back.Goals as goal

pub returns : goal.returns
returns c = record {
  back = reads_back;
  alone = three_frames_decide;
  places = record {
    places = place_of_lies;
    samples = λ block n b i s lo hi. (sample_lies block n b i s lo hi).found;
    ranges = λ k lo hi. (range_lies k lo hi).found;
    checks = λ block k i lo hi. (check_lies block k i lo hi).found;
  };
}
